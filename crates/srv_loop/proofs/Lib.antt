pub mod Batches
pub mod Cuts
pub mod Lines
pub mod PlayLaws
pub mod Reading
pub mod RunLaws
pub mod ServeLaws
pub mod Writes
