pub mod Pairs
pub mod Places
pub mod Runs
pub mod Spent
