pub mod Asked
pub mod Generated
pub mod Loads
pub mod Refusals
