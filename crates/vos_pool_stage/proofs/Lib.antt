pub mod Staging
pub mod Making
pub mod Lifting
pub mod Saying
-- Lemmas of crates below, passed on to those above.
pub use Rattle.vos_pool_base.proofs as vos_pool_base
pub use Rattle.vos_pool_base.proofs.vos_standing as vos_standing
