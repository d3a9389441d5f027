pub mod Formed
pub mod Millions
pub mod Sought
