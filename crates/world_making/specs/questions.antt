-- What is told and asked between targets goes on where snapshots are made and containers aggregated.
pub mod Entries
pub mod Sends
pub mod Turns
pub mod Laws
pub mod Events
