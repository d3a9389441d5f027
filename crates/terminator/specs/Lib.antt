pub mod Terminators
pub mod Lots
pub mod Groups
pub mod Reading
