-- What a target leaves that hears a Verdict.
pub mod Tried
-- What crates above name of those below, passed on to them.
pub use Rattle.replay_fetch.specs as replay_fetch
