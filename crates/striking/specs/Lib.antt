pub mod Parties
pub mod Meetings
pub mod Settled
pub mod Counts
