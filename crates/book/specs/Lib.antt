pub mod Bounds
pub mod Plain
pub mod Making
pub mod Meaning
