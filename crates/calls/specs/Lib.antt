pub mod Figures
pub mod Calls
