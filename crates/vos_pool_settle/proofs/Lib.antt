pub mod Named
pub mod Made
pub mod Leaving
pub mod Removed
-- Lemmas of crates below, passed on to those above.
pub use Rattle.vos_keeping.proofs as vos_keeping
pub use Rattle.vos_levels.proofs as vos_levels
pub use Rattle.vos_pool_base.proofs as vos_pool_base
pub use Rattle.vos_pool_turns.proofs as vos_pool_turns
pub use Rattle.vos_pool_turns.proofs.vos_fitting.vos_settle as vos_settle
