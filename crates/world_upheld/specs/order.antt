-- The order of real time where snapshots are made and containers aggregated.
pub mod Guards
pub mod Turns
pub mod Storing
pub mod Serving
pub mod Answers
pub mod Known
pub mod Stored
pub mod Passing
pub mod Clients
