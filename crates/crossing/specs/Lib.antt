pub mod Refused
pub mod Turning
pub mod Shown
pub mod Days
