pub mod Held
pub mod Attaching
pub mod Formatting
pub mod Making
