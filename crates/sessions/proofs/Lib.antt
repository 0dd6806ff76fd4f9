pub mod Owned
pub mod Whole
pub mod Marks
pub mod Sends
