pub mod Rows
pub mod Tallies
pub mod Folds
