pub mod Spans
pub mod Held
