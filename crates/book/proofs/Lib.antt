pub mod Places
pub mod Nearest
pub mod Admitting
