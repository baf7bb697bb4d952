pub mod Staged
pub mod Laws
-- What crates above name of those below, passed on to them.
pub use Rattle.vos_pool_base.specs as vos_pool_base
pub use Rattle.vos_pool_base.specs.vos_standing as vos_standing
