pub mod Asked
pub mod Meaning
pub mod Midpoints
pub mod TapeRows
pub mod Tapes
pub mod Texts
