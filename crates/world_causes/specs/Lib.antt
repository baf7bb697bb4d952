-- Why each outcome shows its cause, what is told of how attempts ended, and epochs and versions where targets stop and open again.
pub mod causes
pub mod restarts
pub mod outcomes
pub mod losses
pub mod hearing
pub mod firsts
pub mod showing
pub mod handing
pub mod stored
-- What crates above name of those below, passed on to them.
pub use Rattle.world_contents.specs.world_commit as world_commit
pub use Rattle.world_contents.specs as world_contents
pub use Rattle.world_contents.specs.world_letters as world_letters
