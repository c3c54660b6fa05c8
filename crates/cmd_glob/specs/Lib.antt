pub mod Symbols
pub mod Sets
pub mod Patterns
pub mod Matching
pub mod Places
pub mod Listing
