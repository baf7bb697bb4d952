-- Whose versions targets keep, whatever they kept at the opening.
pub mod Changing
pub mod Turns
pub mod Becoming
pub mod Storing
pub mod Hearing
pub mod Events
pub mod Versions
pub mod Owners
-- What crates above name of those below, passed on to them.
pub use Rattle.world_making.specs as world_making
