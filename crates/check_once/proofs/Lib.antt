pub mod Pairs
pub mod Chains
pub mod Runs
pub mod Twins
pub mod Listed
