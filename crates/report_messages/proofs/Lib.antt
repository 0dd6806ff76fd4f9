pub mod Takes
pub mod Texts
pub mod Told
pub mod Heard
pub mod Known
