-- What snapshots and aggregations make of targets.
pub mod Leaving
pub mod Snapshots
pub mod Making
pub mod Steps
pub mod Stages
pub mod Ends
pub mod Turns
pub mod Kinds
