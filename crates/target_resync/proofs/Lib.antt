pub mod Silent
pub mod Asking
pub mod Resetting
pub mod Opened
