pub mod Extents
pub mod Shown
pub mod Cells
pub mod Looks
pub mod Settling
-- What crates above name of those below, passed on to them.
pub use Rattle.vos_versions.specs.vos_chain as vos_chain
pub use Rattle.vos_moments.specs.vos_levels as vos_levels
pub use Rattle.vos_versions.specs as vos_versions
