-- Which scripts are without snapshots, and which have keys as their names and keys.
pub mod Plain
pub mod Keyed
