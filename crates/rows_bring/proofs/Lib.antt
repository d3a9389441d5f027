pub mod Numbers
pub mod Staging
pub mod Pools
pub mod Turns
