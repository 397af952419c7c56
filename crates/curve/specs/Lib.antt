pub mod Reaching
pub mod Runs
