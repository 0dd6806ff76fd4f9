pub mod Digits
pub mod Kept
pub mod Padding
pub mod Tables
