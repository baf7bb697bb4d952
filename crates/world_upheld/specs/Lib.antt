-- All facts together over every event, snapshots and aggregation among them.
pub mod causing
pub mod upheld
pub mod stored
pub mod order
pub mod reasons
pub mod hearing
pub mod explained
pub mod below
-- What crates above name of those below, passed on to them.
pub use Rattle.world_legal.specs.world_causes as world_causes
pub use Rattle.world_legal.specs.world_commit as world_commit
pub use Rattle.world_legal.specs.world_contents as world_contents
pub use Rattle.world_readers.specs.world_ended as world_ended
pub use Rattle.world_letters.specs as world_letters
pub use Rattle.world_owners.specs.world_making as world_making
