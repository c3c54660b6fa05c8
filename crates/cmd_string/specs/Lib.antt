pub mod Within
pub mod Ranges
pub mod Options
pub mod StringRows
pub mod StringLaws
pub mod SliceLaws
pub mod OptionLaws
