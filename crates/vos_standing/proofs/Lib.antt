pub mod Agreeing
pub mod Changing
pub mod Fitting
pub mod Beyond
pub mod Standing
pub mod Committed
-- Lemmas of crates below, passed on to those above.
pub use Rattle.vos_places.proofs.vos_path as vos_path
pub use Rattle.vos_places.proofs as vos_places
