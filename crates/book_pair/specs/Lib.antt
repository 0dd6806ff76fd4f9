pub mod Unions
pub mod Pairs
