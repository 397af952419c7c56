pub mod Fine
pub mod Turning
pub mod Auctions
