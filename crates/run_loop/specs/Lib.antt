-- The actors of a run, turn by turn.
pub mod Loops
pub mod Below
-- What crates above name of those below, passed on to them.
pub use Rattle.run_stage.specs.client_core as client_core
pub use Rattle.run_stage.specs.world_ended as world_ended
