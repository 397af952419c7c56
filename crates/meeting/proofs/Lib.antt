pub mod Done
pub mod Lowered
pub mod Onward
pub mod Filled
