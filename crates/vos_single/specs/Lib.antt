pub mod Singles
pub mod Settling
pub mod Reading
