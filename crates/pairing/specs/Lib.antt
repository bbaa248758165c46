pub mod Matchings
pub mod Pairings
pub mod Congruences
pub mod Parts
pub mod Ways
