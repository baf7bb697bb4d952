pub mod Taken
pub mod Turning
