pub mod Dtx
-- What crates above name of those below, passed on to them.
pub use Rattle.world_ended.specs as world_ended
pub use Rattle.world_ended.specs.world_letters as world_letters
