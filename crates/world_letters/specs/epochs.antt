-- Epochs that are issued, and what shows them.
pub mod Epochs
pub mod Lists
pub mod Sayings
pub mod FetchTurns
pub mod CommitTurns
pub mod TargetLaws
pub mod Talking
pub mod TargetEvents
pub mod Asking
pub mod ClientLaws
pub mod EventLaws
