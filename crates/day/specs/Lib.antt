pub mod Tape
pub mod Days
