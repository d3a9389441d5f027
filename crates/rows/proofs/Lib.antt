pub mod Closing
pub mod Runs
pub mod WordLaws
