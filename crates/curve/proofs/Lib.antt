pub mod Volumes
pub mod Counting
pub mod Writing
pub mod Whole
