pub mod Numerals
pub mod Positions
