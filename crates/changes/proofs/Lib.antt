pub mod Orderly
pub mod Conserving
pub mod Following
