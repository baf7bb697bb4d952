-- Whether a list of events is a run.
pub mod Told
pub mod Turned
pub mod Starting
