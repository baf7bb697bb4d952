-- The steps by which target 0 makes snapshots and aggregations with the others.
pub mod Snaps
