-- What is stored once, where targets stop and open again.
pub mod Stopping
pub mod Over
pub mod Targets
pub mod Cutting
pub mod Further
pub mod Happening
