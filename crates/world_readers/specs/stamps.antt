-- Timestamps of running targets are of the script's attempts.
pub mod Stamps
pub mod Fetches
pub mod Turns
pub mod Events
