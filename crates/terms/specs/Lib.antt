pub mod Execution
pub mod Lifetime
pub mod Pricing
pub mod Target
