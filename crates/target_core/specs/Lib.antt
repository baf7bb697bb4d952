-- What a target says of its turns.
pub mod Targets
pub mod HeardLaws
-- What crates above name of those below, passed on to them.
pub use Rattle.target_resync.specs as target_resync
pub use Rattle.target_snaps.specs as target_snaps
pub use Rattle.target_writes.specs as target_writes
pub use Rattle.target_reads.specs.world_ended as world_ended
