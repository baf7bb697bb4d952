pub mod Led
pub mod Staying
