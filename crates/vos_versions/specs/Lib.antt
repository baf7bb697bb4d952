pub mod Marks
-- What crates above name of those below, passed on to them.
pub use Rattle.vos_chain.specs.pmem_tree as pmem_tree
pub use Rattle.vos_chain.specs.pmem_tree_base as pmem_tree_base
pub use Rattle.vos_chain.specs as vos_chain
pub use Rattle.vos_chain.specs.vos_levels as vos_levels
