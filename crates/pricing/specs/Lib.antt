pub mod Ends
pub mod Level
pub mod Called
