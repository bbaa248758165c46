pub mod Flaws
pub mod Layings
