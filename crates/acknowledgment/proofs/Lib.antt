pub mod Building
pub mod MessageIds
pub mod Lengths
