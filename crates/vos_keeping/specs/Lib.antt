pub mod Keeping
-- What crates above name of those below, passed on to them.
pub use Rattle.vos_tables.specs.vos_places as vos_places
pub use Rattle.vos_tables.specs as vos_tables
