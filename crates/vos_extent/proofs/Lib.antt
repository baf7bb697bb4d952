pub mod Places
pub mod Changing
pub mod Painting
pub mod Greatest
pub mod Walking
pub mod Records
pub mod Tops
pub mod Settling
-- Lemmas of crates below, passed on to those above.
pub use Rattle.vos_moments.proofs.vos_levels as vos_levels
pub use Rattle.vos_versions.proofs as vos_versions
