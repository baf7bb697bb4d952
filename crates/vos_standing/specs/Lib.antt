pub mod Standing
pub mod Laws
-- What crates above name of those below, passed on to them.
pub use Rattle.vos_places.specs.vos_entries as vos_entries
pub use Rattle.vos_places.specs.vos_image as vos_image
pub use Rattle.vos_places.specs.vos_path as vos_path
pub use Rattle.vos_places.specs as vos_places
