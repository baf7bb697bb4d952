pub mod Steps
-- Lemmas of crates below, passed on to those above.
pub use Rattle.vos_pool_turns.proofs.vos_pool_stage.vos_pool_base as vos_pool_base
