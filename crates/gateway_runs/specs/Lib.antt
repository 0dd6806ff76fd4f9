pub mod Runs
pub mod Moves
pub mod Conservation
pub mod Laws
