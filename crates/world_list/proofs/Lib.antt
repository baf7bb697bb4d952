pub mod Decided
mod Runs
mod Taken
