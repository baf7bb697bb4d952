pub mod Changing
pub mod Staging
pub mod Commits
pub mod Writing
pub mod Freezing
pub mod Leaving
-- Lemmas of crates below, passed on to those above.
pub use Rattle.vos_standing.proofs.vos_path as vos_path
pub use Rattle.vos_standing.proofs as vos_standing
pub use Rattle.vos_tables.proofs as vos_tables
