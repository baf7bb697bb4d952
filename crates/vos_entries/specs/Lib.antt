pub mod Entries
pub mod Lists
-- What crates above name of those below, passed on to them.
pub use Rattle.vos_versions.specs.vos_chain as vos_chain
pub use Rattle.vos_versions.specs.vos_levels as vos_levels
