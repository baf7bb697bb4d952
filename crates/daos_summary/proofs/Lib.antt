pub mod Joins
pub mod Seen
