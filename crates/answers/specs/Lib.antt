pub mod Parts
pub mod Stops
pub mod Calendars
pub mod Points
pub mod Answers
