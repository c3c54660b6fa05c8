pub mod Inputs
pub mod ReplayLaws
pub mod Statuses
