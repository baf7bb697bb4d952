-- What targets keep and what they answered stands for the decided transactions.
pub mod reads
pub mod posts
pub mod gots
pub mod frozen
-- What crates above name of those below, passed on to them.
pub use Rattle.model_laws.specs as model_laws
pub use Rattle.world_commit.specs.world_base as world_base
pub use Rattle.world_commit.specs as world_commit
pub use Rattle.world_commit.specs.world_letters as world_letters
