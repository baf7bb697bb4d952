-- Turns of a target that make snapshots and aggregate containers.
pub mod Lined
pub mod Freezing
pub mod FreezeTurns
pub mod HeldTurns
pub mod LossTurns
pub mod SnapTurns
pub mod Limits
pub mod Settling
pub mod PruneTurns
pub mod AggregateTurns
pub mod Following
