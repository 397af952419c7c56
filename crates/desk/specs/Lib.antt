pub mod Quotes
pub mod Days
