pub use Rattle.rs_base.specs.Bytes
pub mod Replies
