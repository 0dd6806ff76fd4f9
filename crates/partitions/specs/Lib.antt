pub mod PerPartition
pub mod Marks
pub mod Series
