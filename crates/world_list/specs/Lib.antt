-- Which lists of events are runs.
pub mod Fitting
pub mod Following
pub mod RunLists
pub mod Taken
pub mod WorldLists
-- What crates above name of those below, passed on to them.
pub use Rattle.replay_base.specs as replay_base
