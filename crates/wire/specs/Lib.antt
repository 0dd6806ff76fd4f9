pub mod Blanks
pub mod Kinds
pub mod Messages
pub mod Plain
pub mod Published
pub mod Streams
