pub mod Writing
pub mod Texts
