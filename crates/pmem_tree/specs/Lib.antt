pub mod Calls
pub mod Rejoin
pub mod Ends
pub mod Grow
pub mod Set
pub mod Shrink
pub mod Changes
-- What crates above name of those below, passed on to them.
pub use Rattle.pmem_pages.specs as pmem_pages
pub use Rattle.pmem_tree_base.specs as pmem_tree_base
