pub use Rattle.ks_space.specs.Store
pub use Rattle.ks_space.specs.Purge
pub mod Records
pub mod RecordWords
pub mod Settled
pub mod Timely
