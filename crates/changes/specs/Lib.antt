pub mod Changes
pub mod Telling
pub mod Laws
