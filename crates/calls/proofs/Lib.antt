pub mod Unsound
pub mod Opening
