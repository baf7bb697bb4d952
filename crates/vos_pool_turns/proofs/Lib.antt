pub mod Making
-- Lemmas of crates below, passed on to those above.
pub use Rattle.vos_turns.proofs.vos_fitting as vos_fitting
pub use Rattle.vos_pool_stage.proofs as vos_pool_stage
pub use Rattle.vos_turns.proofs as vos_turns
