pub use Rattle.ks_space.specs.Store
pub use Rattle.ks_space.specs.Purge
pub use Rattle.fx_record.specs.Records
pub use Rattle.fx_record.specs.Settled
pub use Rattle.cmd_rows.specs.Outcomes
pub mod Exec
pub mod Worlds
