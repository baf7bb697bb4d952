pub mod Pool
-- What crates above name of those below, passed on to them.
pub use Rattle.vos_turns.specs.vos_fitting as vos_fitting
pub use Rattle.vos_pool_stage.specs as vos_pool_stage
pub use Rattle.vos_turns.specs.vos_settle as vos_settle
pub use Rattle.vos_turns.specs as vos_turns
