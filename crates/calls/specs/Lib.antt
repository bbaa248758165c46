pub mod Reasons
pub mod Entries
pub mod Answers
pub mod Rows
