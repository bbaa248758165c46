pub mod State
pub mod Following
pub mod Tallies
pub mod Judged
