-- How the targets of a run stand.
pub mod Watches
