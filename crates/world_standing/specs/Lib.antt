-- What waits at targets, what goes to them, and what leases cover, where targets may stop; and when epochs are in the order of real time.
pub mod standing
pub mod hearable
pub mod external
-- What crates above name of those below, passed on to them.
pub use Rattle.world_causes.specs as world_causes
pub use Rattle.world_causes.specs.world_commit as world_commit
pub use Rattle.world_causes.specs.world_contents as world_contents
pub use Rattle.world_causes.specs.world_letters as world_letters
