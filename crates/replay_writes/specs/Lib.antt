-- Whether a target heard a Commit, or a Prepare, so.
pub mod Ways
pub mod Begun
pub mod Refused
pub mod Committed
