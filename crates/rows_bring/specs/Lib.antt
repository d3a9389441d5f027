pub mod Staged
pub mod Stored
