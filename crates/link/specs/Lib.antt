pub mod Replies
pub mod Requests
