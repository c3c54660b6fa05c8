pub mod Zset
