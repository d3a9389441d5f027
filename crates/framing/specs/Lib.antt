pub mod Framing
pub mod Following
