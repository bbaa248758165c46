pub mod Points
pub mod Limits
