pub mod Written
mod Calling
mod Opening
mod Saying
pub mod Naming
