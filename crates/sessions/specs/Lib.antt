pub mod Downloads
pub mod Sessions
pub mod Sending
pub mod Laws
