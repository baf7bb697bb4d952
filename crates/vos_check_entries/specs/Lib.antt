pub mod Nodes
pub mod Seen
pub mod Rows
pub mod Steps
-- What crates above name of those below, passed on to them.
pub use Rattle.vos_check.specs as vos_check
