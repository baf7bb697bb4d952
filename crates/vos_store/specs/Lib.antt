pub mod Refusals
pub mod Calls
pub mod Answers
pub mod Conditions
pub mod Unfailing
