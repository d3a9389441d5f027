pub mod Lengths
pub mod Reader
pub mod Passes
