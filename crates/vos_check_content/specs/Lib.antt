pub mod Region
pub mod Whole
pub mod Laws
-- What crates above name of those below, passed on to them.
pub use Rattle.vos_check_entries.specs as vos_check_entries
pub use Rattle.vos_check_places.specs as vos_check_places
