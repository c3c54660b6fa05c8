pub mod Table
pub mod Entries
pub mod Refusals
pub mod Draws
pub mod Keys
