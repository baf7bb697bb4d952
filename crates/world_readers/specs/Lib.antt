-- What waits, and what timestamps and lines tell, is of the script's attempts, whatever targets kept at the opening.
pub mod Freed
pub mod stamps
pub mod lines
pub mod forms
pub mod kinds
-- What crates above name of those below, passed on to them.
pub use Rattle.world_ended.specs as world_ended
