-- What a target does that hears a Fetch, or a Verdict.
pub mod Meets
pub mod Fetches
pub mod Again
-- What crates above name of those below, passed on to them.
pub use Rattle.world_ended.specs as world_ended
pub use Rattle.world_ended.specs.world_letters as world_letters
