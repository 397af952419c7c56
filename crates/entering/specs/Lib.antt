pub mod Courses
pub mod Questions
pub mod Accepted
