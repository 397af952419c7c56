pub mod Markets
pub mod Walk
pub mod Found
