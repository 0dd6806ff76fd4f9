pub mod Places
pub mod Logs
pub mod Views
pub mod Room
pub mod Told
