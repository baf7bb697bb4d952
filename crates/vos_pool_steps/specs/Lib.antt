pub mod Quiet
-- What crates above name of those below, passed on to them.
pub use Rattle.vos_pool_turns.specs as vos_pool_turns
