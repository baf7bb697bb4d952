pub mod Links
pub mod Reading
-- Lemmas of crates below, passed on to those above.
pub use Rattle.vos_levels.proofs as vos_levels
pub use Rattle.vos_levels.proofs.vos_values as vos_values
