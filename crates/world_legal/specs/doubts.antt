-- What a leader no longer knows of attempts after a stop.
pub mod Doubts
pub mod Stopped
pub mod Recounting
pub mod Rows
pub mod Turns
pub mod Targets
pub mod Stopping
pub mod Clients
pub mod Laws
pub mod Events
