pub mod Turning
pub mod Promised
