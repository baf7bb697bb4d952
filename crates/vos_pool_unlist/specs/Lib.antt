pub mod Unlisted
-- What crates above name of those below, passed on to them.
pub use Rattle.vos_pool_steps.specs as vos_pool_steps
