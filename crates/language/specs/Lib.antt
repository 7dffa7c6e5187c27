pub mod Words
pub mod Misreads
pub mod Calendars
pub mod Points
pub mod Commands
pub mod Languages
