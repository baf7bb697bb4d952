pub mod Moments
pub mod Punches
pub mod Rows
-- What crates above name of those below, passed on to them.
pub use Rattle.vos_levels.specs.pmem_pages as pmem_pages
pub use Rattle.vos_levels.specs.pmem_tree as pmem_tree
pub use Rattle.vos_levels.specs.pmem_tree_base as pmem_tree_base
pub use Rattle.vos_levels.specs as vos_levels
pub use Rattle.vos_levels.specs.vos_values as vos_values
