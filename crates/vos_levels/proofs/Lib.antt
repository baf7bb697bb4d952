pub mod Spots
pub mod Changing
pub mod Calls
pub mod Moments
pub mod Testing
pub mod Settling
-- Lemmas of crates below, passed on to those above.
pub use Rattle.pmem_tree.proofs.pmem_pages as pmem_pages
pub use Rattle.vos_values.proofs as vos_values
