pub mod Bits
pub mod Each
pub mod Fits
pub mod Tables
