pub mod Followed
pub mod Places
pub mod Rising
