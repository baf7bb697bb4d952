pub mod Levels
pub mod Calls
pub mod Moments
pub mod Changes
-- What crates above name of those below, passed on to them.
pub use Rattle.pmem_tree.specs.pmem_pages as pmem_pages
pub use Rattle.pmem_tree.specs as pmem_tree
pub use Rattle.pmem_tree.specs.pmem_tree_base as pmem_tree_base
pub use Rattle.vos_values.specs as vos_values
