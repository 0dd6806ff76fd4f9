pub mod Words
pub mod Lines
pub mod Sentences
pub mod Shown
pub mod Labels
pub mod Account
pub mod Answers
pub mod Captures
