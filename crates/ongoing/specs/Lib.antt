pub mod Points
pub mod Intervals
