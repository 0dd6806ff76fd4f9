pub mod Requested
pub mod Counting
pub mod Alone
pub mod Withdrawn
pub mod Foretelling
