pub mod Owning
pub mod Checking
pub mod Committing
pub mod Storing
pub mod Beginning
pub mod CommitTurns
pub mod DownTurns
pub mod PrepareTurns
mod Posting
