pub mod Steps
pub mod Shown
pub mod ContPlaces
pub mod SnapPlaces
pub mod HeaderRules
pub mod Bits
pub mod Whole
-- Lemmas of crates below, passed on to those above.
pub use Rattle.vos_places.proofs as vos_places
