-- What is stored once, where snapshots are made and containers aggregated.
pub mod Writing
pub mod Makers
pub mod Turns
pub mod Clients
pub mod Laws
pub mod Events
