pub mod Parts
pub mod Decisions
