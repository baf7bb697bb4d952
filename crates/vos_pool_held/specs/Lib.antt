pub mod Held
pub mod Laws
pub mod Resting
pub mod State
-- What crates above name of those below, passed on to them.
pub use Rattle.vos_contents.specs as vos_contents
pub use Rattle.vos_pool_base.specs as vos_pool_base
pub use Rattle.vos_turns.specs as vos_turns
