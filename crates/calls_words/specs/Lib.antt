pub mod Calls
pub mod Opening
pub mod Figures
pub mod Tally
pub mod Faults
