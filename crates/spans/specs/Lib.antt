pub mod Spans
pub mod Stretches
pub mod Relations
