-- Which attempts can end as committed: those of which their client has asked it.
pub mod Asking
pub mod PostLaws
pub mod TurnLaws
pub mod Clients
pub mod ClientLaws
-- What crates above name of those below, passed on to them.
pub use Rattle.world_letters.specs as world_letters
