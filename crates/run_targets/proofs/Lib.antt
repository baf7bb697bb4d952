-- The proofs of this crate's functions.
mod Setting
mod Taken
mod Reading
mod Runs
mod Telling
