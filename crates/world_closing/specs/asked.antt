-- Who is waited for is asked, in any run; where it has ended it is over, and what became of attempts is known.
pub mod Waiters
pub mod Collecting
pub mod CollectingTurns
pub mod Collections
pub mod CollectionEvents
pub mod Over
pub mod Concluding
pub mod Asked
pub mod Runs
