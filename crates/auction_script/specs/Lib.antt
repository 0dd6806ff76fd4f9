pub mod Words
pub mod Commands
pub mod Texts
pub mod Lines
pub mod Ladders
pub mod Accounts
