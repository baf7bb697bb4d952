-- What tells that targets are down, what leaders no longer know after a stop, and what is over where a run has ended.
pub mod reasons
pub mod doubts
pub mod shown
pub mod closing
pub mod forming
-- What crates above name of those below, passed on to them.
pub use Rattle.world_standing.specs.world_causes as world_causes
pub use Rattle.world_standing.specs.world_commit as world_commit
pub use Rattle.world_standing.specs.world_contents as world_contents
pub use Rattle.world_standing.specs as world_standing
