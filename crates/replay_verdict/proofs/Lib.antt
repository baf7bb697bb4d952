pub mod Trying
pub mod Hearing
