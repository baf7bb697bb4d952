-- The opening of a run over stores that are sound together.
pub mod Opened
pub mod Steps
pub mod All
pub mod Laws
pub mod StandLaws
pub mod SoundLaws
pub mod Alike
pub mod AlikeSound
pub mod EnlistLaws
pub mod FloorLaws
pub mod Left
pub mod LeftLaws
pub mod EnlistLeft
pub mod UnusedLaws
-- What crates above name of those below, passed on to them.
pub use Rattle.target_parts.specs as target_parts
pub use Rattle.target_parts.specs.world_contents as world_contents
