pub mod Totals
pub mod Nexts
pub mod Places
pub mod Written
