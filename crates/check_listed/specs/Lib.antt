pub mod Marks
pub mod Lots
pub mod Listing
