pub mod Promised
pub mod Refused
pub mod Figures
pub mod Counting
pub mod Seeds
pub mod Padded
pub mod Changed
