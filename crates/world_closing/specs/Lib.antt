-- What a run comes to where it has ended, in any run.
pub mod asked
pub mod forming
pub mod Causes
pub mod Dates
pub mod Issued
pub mod legal
pub mod safety
pub mod stands
pub mod Whole
pub mod Below
pub mod Rules
-- What crates above name of those below, passed on to them.
pub use Rattle.world_answers.specs.world_causes as world_causes
pub use Rattle.world_answers.specs.world_making as world_making
