pub mod Tasks
pub mod Nodes
pub mod Costs
pub mod Versions
pub mod Names
-- What crates above name of those below, passed on to them.
pub use Rattle.vos_ilog.specs as vos_ilog
