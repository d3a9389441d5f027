pub mod Chained
pub mod Weighed
pub mod Whole
