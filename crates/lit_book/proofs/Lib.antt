pub mod Settles
pub mod Keeps
pub mod Passing
pub mod Laws
pub mod Examples
