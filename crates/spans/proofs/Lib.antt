pub mod Bounds
pub mod Tests
