pub mod Lists
pub mod Changing
-- Lemmas of crates below, passed on to those above.
pub use Rattle.vos_versions.proofs.vos_chain as vos_chain
