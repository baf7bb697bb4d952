pub mod Marks
pub mod Levels
-- Lemmas of crates below, passed on to those above.
pub use Rattle.vos_chain.proofs as vos_chain
pub use Rattle.vos_chain.proofs.vos_levels as vos_levels
