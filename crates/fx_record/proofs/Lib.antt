pub mod Stores
pub mod RecordLaws
pub mod WordLaws
pub mod LimitLaws
pub mod SettledLaws
pub mod Staying
