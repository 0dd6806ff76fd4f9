pub mod Rules
pub mod Keeping
pub mod Books
pub mod Laws
