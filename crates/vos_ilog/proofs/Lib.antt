pub mod Adding
pub mod Reading
pub mod Changing
pub mod Settling
