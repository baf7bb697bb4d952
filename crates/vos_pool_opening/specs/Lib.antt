pub mod Beginning
pub mod Ways
pub mod Tidied
pub mod Opening
-- What crates above name of those below, passed on to them.
pub use Rattle.vos_pool_held.specs as vos_pool_held
