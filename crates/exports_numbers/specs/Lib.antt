pub mod Said
pub mod Bit
