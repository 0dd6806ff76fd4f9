pub mod Identifiers
pub mod Telling
pub mod Back
pub mod Sent
pub mod Told
