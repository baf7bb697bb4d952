-- What a target does that stores writes.
pub mod CheckLaws
pub mod Checks
pub mod Turns
pub mod Writing
-- What crates above name of those below, passed on to them.
pub use Rattle.target_parts.specs.world_contents as world_contents
