pub mod Reasons
pub mod Filling
pub mod Showing
pub mod Trading
