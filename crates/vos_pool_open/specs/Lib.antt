pub mod Kept
pub mod Looks
-- What crates above name of those below, passed on to them.
pub use Rattle.vos_check_content.specs as vos_check_content
pub use Rattle.vos_check_content.specs.vos_check_entries as vos_check_entries
pub use Rattle.vos_check_content.specs.vos_check_places as vos_check_places
