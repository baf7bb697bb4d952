-- Answers that go about and that lines tell, and reads that are asked.
pub mod Forms
pub mod Posts
pub mod Reads
pub mod Turns
pub mod Further
pub mod Clients
pub mod Events
pub mod Asking
pub mod Requests
pub mod Runs
pub mod AnswerForms
pub mod KeyLaws
-- What crates above name of those below, passed on to them.
pub use Rattle.world_making.specs.world_causes as world_causes
pub use Rattle.world_making.specs.world_contents as world_contents
pub use Rattle.world_making.specs as world_making
