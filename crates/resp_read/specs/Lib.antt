pub use Rattle.rs_base.specs.Bytes
pub mod Automaton
pub mod Frames
pub mod Limits
pub mod Places
pub mod Reading
