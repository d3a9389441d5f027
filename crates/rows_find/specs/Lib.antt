pub mod Runs
pub mod Finding
pub mod Marks
