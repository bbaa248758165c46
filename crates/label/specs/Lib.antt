pub mod Measured
pub mod Sameness
pub mod Equals
pub mod Halves
pub mod Written
