pub mod Faults
pub mod Holding
pub mod Layout
pub mod Looks
pub mod Writing
pub mod Shapes
pub mod Published
