pub mod Bytes
pub mod Decimals
pub mod Escape
pub mod Unescape
pub mod formers
