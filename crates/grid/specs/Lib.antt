pub mod Views
pub mod Making
