pub use Rattle.ks_tree.specs.Order
pub mod Fields
pub mod Members
pub mod Texts
