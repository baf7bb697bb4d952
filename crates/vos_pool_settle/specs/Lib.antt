pub mod Changing
pub mod Settling
pub mod Aborting
pub mod Removing
-- What crates above name of those below, passed on to them.
pub use Rattle.vos_keeping.specs as vos_keeping
pub use Rattle.vos_levels.specs as vos_levels
pub use Rattle.vos_pool_base.specs as vos_pool_base
pub use Rattle.vos_pool_turns.specs.vos_settle as vos_settle
pub use Rattle.vos_pool_turns.specs.vos_turns as vos_turns
