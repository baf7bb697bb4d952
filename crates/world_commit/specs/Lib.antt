-- Two-phase commit, of each attempt, and the questions between targets, where targets may stop too.
pub mod attempts
pub mod fates
pub mod stops
pub mod statuses
pub mod asks
pub mod questions
pub mod requests
-- What crates above name of those below, passed on to them.
pub use Rattle.dtx_base.specs as dtx_base
pub use Rattle.world_base.specs.vos_stamp as vos_stamp
pub use Rattle.world_base.specs as world_base
pub use Rattle.world_letters.specs as world_letters
