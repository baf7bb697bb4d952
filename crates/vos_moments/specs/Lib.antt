pub mod Steps
pub mod Taking
-- What crates above name of those below, passed on to them.
pub use Rattle.vos_punches.specs.pmem_tree as pmem_tree
pub use Rattle.vos_punches.specs.pmem_tree_base as pmem_tree_base
pub use Rattle.vos_punches.specs.vos_levels as vos_levels
pub use Rattle.vos_punches.specs as vos_punches
