pub mod Objects
pub mod Calls
pub mod Writes
pub mod Nodes
pub mod Small
-- What crates above name of those below, passed on to them.
pub use Rattle.vos_extent.specs.vos_chain as vos_chain
pub use Rattle.vos_extent.specs as vos_extent
pub use Rattle.vos_ilog.specs as vos_ilog
pub use Rattle.vos_single.specs as vos_single
pub use Rattle.vos_extent.specs.vos_versions as vos_versions
