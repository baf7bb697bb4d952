-- What goes about between clients and targets, and what lines tell of clients.
pub mod clients
pub mod kinds
pub mod talks
pub mod waits
pub mod lines
pub mod endings
pub mod lives
pub mod epochs
pub mod snapshots
pub mod apart
-- What crates above name of those below, passed on to them.
pub use Rattle.world_base.specs.dtx_base as dtx_base
pub use Rattle.world_base.specs.model_laws as model_laws
pub use Rattle.world_base.specs as world_base
