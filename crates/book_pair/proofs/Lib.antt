pub mod Unions
pub mod Rooms
pub mod Pairs
