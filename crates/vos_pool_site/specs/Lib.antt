pub mod Left
pub mod Closed
pub mod Site
pub mod Laws
-- What crates above name of those below, passed on to them.
pub use Rattle.vos_pool_held.specs as vos_pool_held
