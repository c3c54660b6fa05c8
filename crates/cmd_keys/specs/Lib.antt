pub use Rattle.cmd_rows.specs.Outcomes
pub use Rattle.cmd_rows.specs.Worlds
pub use Rattle.cmd_rows.specs.Given
pub mod Globs
pub mod ServerRows
pub mod KeyRows
pub mod Families
pub mod Laws
