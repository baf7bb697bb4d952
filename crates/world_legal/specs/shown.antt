-- What waits at a target and what a leader keeps open, as causes ask.
pub mod Parked
pub mod Open
