pub mod Answering
pub mod Bounds
pub mod Accepting
