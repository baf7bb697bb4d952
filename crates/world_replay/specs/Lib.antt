-- Runs as lists of events.
pub mod Replays
