pub mod Marks
pub mod Forms
