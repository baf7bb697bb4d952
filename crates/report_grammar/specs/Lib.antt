pub mod Answers
pub mod Names
pub mod Outcomes
pub mod Reads
pub mod Rows
pub mod Words
