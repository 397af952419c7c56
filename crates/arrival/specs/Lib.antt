pub mod Adding
pub mod Books
pub mod Checking
pub mod Fronts
pub mod Scans
