pub mod Running
pub mod Ascending
pub mod Cells
pub mod Seeking
pub mod Weighing
