pub mod Answers
pub mod Clearing
