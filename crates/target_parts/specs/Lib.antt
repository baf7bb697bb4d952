-- What the parts of a target's turns say.
pub mod Halts
pub mod Parts
pub mod Posting
pub mod Running
pub mod Turning
pub mod Stops
pub mod Ending
pub mod Covers
pub mod Cover
pub mod Readying
pub mod Later
pub mod Knowing
pub mod Keeping
pub mod KeepingLaws
pub mod KnowsLaws
pub mod MadeLaws
pub mod RowKeeping
pub mod Listing
pub mod EpochLaws
pub mod Readings
pub mod Standing
-- What crates above name of those below, passed on to them.
pub use Rattle.dtx_leader.specs.dtx_table as dtx_table
pub use Rattle.world_contents.specs.world_base as world_base
pub use Rattle.world_contents.specs.world_commit as world_commit
pub use Rattle.world_contents.specs as world_contents
