-- What a run of actors in an order of turns shows of a world, what its turns lead to, and what it comes to.
pub mod shows
pub mod steps
pub mod reports
pub mod ends
pub mod turns
pub mod Below
-- What crates above name of those below, passed on to them.
pub use Rattle.client_core.specs as client_core
pub use Rattle.target_core.specs as target_core
pub use Rattle.run_opening.specs.target_parts as target_parts
pub use Rattle.target_core.specs.target_resync as target_resync
pub use Rattle.target_core.specs.target_snaps as target_snaps
pub use Rattle.run_opening.specs.world_contents as world_contents
pub use Rattle.target_core.specs.world_ended as world_ended
pub use Rattle.world_letters.specs as world_letters
