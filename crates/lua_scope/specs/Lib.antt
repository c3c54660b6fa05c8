pub mod Scoping
pub mod Functions
pub mod Texts
pub mod Captures
