pub mod Advice
pub mod Answers
pub mod Replies
