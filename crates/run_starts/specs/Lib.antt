-- What is said of stores that are opened for a run.
pub mod Stops
pub mod Calls
pub mod Starts
pub mod LastLaws
pub mod Begins
pub mod Runs
pub mod Below
-- What crates above name of those below, passed on to them.
pub use Rattle.run_opening.specs as run_opening
pub use Rattle.run_opening.specs.target_parts as target_parts
pub use Rattle.run_opening.specs.world_contents as world_contents
