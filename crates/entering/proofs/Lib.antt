pub mod Opposite
pub mod Running
pub mod Placing
pub mod Phases
