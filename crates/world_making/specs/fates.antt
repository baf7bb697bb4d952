-- Two-phase commit goes on where snapshots are made and containers aggregated.
pub mod Steps
pub mod Sends
pub mod Turns
pub mod Prompts
pub mod Cuts
pub mod Laws
pub mod Events
