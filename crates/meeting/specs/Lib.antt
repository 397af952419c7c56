pub mod Plans
pub mod Fills
pub mod Meetings
