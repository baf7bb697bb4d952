pub mod Rules
pub mod Shown
pub mod Parts
pub mod Fixed
-- What crates above name of those below, passed on to them.
pub use Rattle.vos_places.specs as vos_places
