pub mod Logs
pub mod Settling
