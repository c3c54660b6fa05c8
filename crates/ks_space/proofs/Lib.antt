pub mod Always
pub mod EntriesSeen
pub mod KeyLists
pub mod Dues
pub mod Gone
pub mod Stores
pub mod Purged
