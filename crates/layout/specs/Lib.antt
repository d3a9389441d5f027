pub mod Columns
pub mod Details
