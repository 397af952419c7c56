pub mod Called
pub mod Views
pub mod Tokens
