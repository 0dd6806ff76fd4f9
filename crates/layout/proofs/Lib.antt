pub mod Fields
pub mod Looks
pub mod Options
pub mod Overs
pub mod Parts
pub mod Tables
pub mod Wholes
pub mod Values
