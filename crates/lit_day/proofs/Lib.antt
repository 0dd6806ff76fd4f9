pub mod Finding
pub mod Mirroring
pub mod Taking
pub mod Acting
pub mod Sending
pub mod Guiding
pub mod Calling
