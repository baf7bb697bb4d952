pub mod NameSteps
pub mod Writes
pub mod Taken
