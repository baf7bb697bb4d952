pub mod Order
pub mod Places
pub mod Found
pub mod Changed
pub mod Kept
pub mod Covering
-- Lemmas of crates below, passed on to those above.
pub use Rattle.vos_levels.proofs.pmem_pages as pmem_pages
pub use Rattle.vos_levels.proofs as vos_levels
