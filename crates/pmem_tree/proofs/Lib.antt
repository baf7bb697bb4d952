pub mod Rejoining
pub mod Ends
pub mod Growing
pub mod GrowingRight
pub mod Inserting
pub mod Setting
pub mod Shrinking
pub mod Removing
pub mod Found
pub mod Valued
pub mod Inserted
pub mod Removed
-- Lemmas of crates below, passed on to those above.
pub use Rattle.pmem_pages.proofs as pmem_pages
