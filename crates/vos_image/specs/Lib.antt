pub mod Steps
pub mod Content
pub mod Nodes
pub mod Trees
pub mod Kinds
pub mod Places
pub mod Kept
pub mod Fits
pub mod Laws
-- What crates above name of those below, passed on to them.
pub use Rattle.vos_entries.specs as vos_entries
pub use Rattle.vos_path.specs.vos_extent as vos_extent
pub use Rattle.vos_path.specs.vos_ilog as vos_ilog
pub use Rattle.vos_path.specs as vos_path
pub use Rattle.vos_path.specs.vos_single as vos_single
