pub mod Lists
pub mod Member
pub mod Order
pub mod Report
pub mod Session
