pub use Rattle.rs_base.specs.Bytes
pub mod Faults
pub mod Calls
pub mod Known
pub mod Steps
pub mod Codes
