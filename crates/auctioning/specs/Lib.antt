pub mod Days
pub mod Results
