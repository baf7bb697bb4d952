pub mod Codec
pub mod Tables
pub mod Laws
-- What crates above name of those below, passed on to them.
pub use Rattle.vos_image.specs.vos_entries as vos_entries
pub use Rattle.vos_image.specs.vos_extent as vos_extent
pub use Rattle.vos_image.specs.vos_ilog as vos_ilog
pub use Rattle.vos_image.specs as vos_image
pub use Rattle.vos_image.specs.vos_path as vos_path
pub use Rattle.vos_image.specs.vos_single as vos_single
