mod Scan
pub mod Ahead
pub mod Following
