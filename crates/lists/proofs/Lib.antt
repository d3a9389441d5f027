pub mod Parts
pub mod Tables
pub mod Below
pub mod Tests
pub mod Folds
pub mod Pasting
