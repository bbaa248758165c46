pub mod Reading
pub mod Keeping
pub mod Adding
pub mod Partaking
pub mod Placing
pub mod Growing
