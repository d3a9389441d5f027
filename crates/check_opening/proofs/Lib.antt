pub mod Marked
pub mod Names
pub mod Opened
