pub mod Views
pub mod Queues
pub mod Positions
pub mod ByNumber
pub mod InRank
pub mod Meaning
pub mod Keeping
