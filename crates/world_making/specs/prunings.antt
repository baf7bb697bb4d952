-- What holds over turns of snapshots and aggregation, and so over everything that happens.
pub mod Parts
pub mod FreezeTurns
pub mod PruneTurns
pub mod HeldTurns
pub mod Premises
pub mod Saying
pub mod MakingTurns
pub mod MakingReads
pub mod Changing
pub mod Writing
pub mod MakingGots
pub mod Containers
pub mod FloorRows
pub mod FloorTurns
pub mod Floors
