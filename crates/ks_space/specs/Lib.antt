pub use Rattle.rs_base.specs.Bytes
pub mod Store
pub mod Purge
pub mod Index
