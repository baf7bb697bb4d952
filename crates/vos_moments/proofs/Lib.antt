pub mod Taking
pub mod Forms
-- Lemmas of crates below, passed on to those above.
pub use Rattle.vos_punches.proofs.vos_levels as vos_levels
