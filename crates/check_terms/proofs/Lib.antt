pub mod Agreeing
mod Columns
pub mod Searching
