pub mod Holding
pub mod Turning
