pub mod Bytes
pub mod Identifiers
pub mod Parties
pub mod Prices
pub mod Says
pub mod Texts
