pub mod Uncounted
pub mod Clearing
pub mod Tidied
