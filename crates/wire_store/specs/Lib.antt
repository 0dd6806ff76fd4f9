pub mod Fitted
pub mod Told
