pub mod Orders
pub mod Lists
pub mod Rules
pub mod Keeping
pub mod Books
pub mod Laws
