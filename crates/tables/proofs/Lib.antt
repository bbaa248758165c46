mod Pushing
mod Meeting
mod Stepping
mod Counting
mod Completing
pub mod Marking
mod Judging
mod Naming
mod Bucketing
mod Tallying
mod Cycles
mod Turning
mod Searching
mod Joining
mod Meshing
mod Wholly
pub mod Passed
