pub mod Numbers
pub mod Bytes
pub mod Told
