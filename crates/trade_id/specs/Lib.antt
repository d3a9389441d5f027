pub mod SpecialInstructions
pub mod Prices
