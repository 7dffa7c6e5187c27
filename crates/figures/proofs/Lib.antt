pub mod Singles
pub mod Points
pub mod Sets
pub mod Calendars
pub mod Figures
