pub mod FieldLaws
pub mod Places
pub mod Seen
pub mod Sets
