pub mod Pool
pub mod Tidy
-- What crates above name of those below, passed on to them.
pub use Rattle.vos_standing.specs.vos_image as vos_image
pub use Rattle.vos_standing.specs.vos_path as vos_path
pub use Rattle.vos_standing.specs.vos_places as vos_places
pub use Rattle.vos_standing.specs as vos_standing
pub use Rattle.vos_tables.specs as vos_tables
