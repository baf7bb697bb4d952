-- What goes on where target 0 makes snapshots and aggregates with the others.
pub mod making
pub mod makers
pub mod freezings
pub mod prunings
pub mod dates
pub mod fates
pub mod losses
pub mod questions
-- What crates above name of those below, passed on to them.
pub use Rattle.world_causes.specs as world_causes
pub use Rattle.world_causes.specs.world_commit as world_commit
pub use Rattle.world_causes.specs.world_contents as world_contents
pub use Rattle.world_letters.specs as world_letters
