pub mod Recording
pub mod Rows
pub mod Keeps
pub mod Summing
pub mod Owned
pub mod Rebuilt
pub mod Chains
