-- The actors of a run as their contracts see them.
pub mod Now
pub mod Below
-- What crates above name of those below, passed on to them.
pub use Rattle.run_laws.specs.client_core as client_core
pub use Rattle.run_laws.specs.world_ended as world_ended
pub use Rattle.run_laws.specs.world_letters as world_letters
