pub mod Answered
pub mod Lost
pub mod Places
