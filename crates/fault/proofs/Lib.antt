pub mod Found
pub mod Exactly
pub mod Numbered
