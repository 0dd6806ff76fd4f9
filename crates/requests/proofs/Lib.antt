pub mod Found
pub mod Sweeping
pub mod Decided
pub mod Planning
