pub mod Reports
pub mod Requests
pub mod Terms
pub mod Published
