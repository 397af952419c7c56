pub mod Stepping
pub mod Walked
pub mod Trading
pub mod Going
pub mod Lasting
pub mod Settling
pub mod Struck
pub mod Counting
