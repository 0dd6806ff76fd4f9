pub mod Session
pub mod Published
