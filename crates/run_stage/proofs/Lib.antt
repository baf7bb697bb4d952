-- Lemmas on what a turn leaves of the actors.
pub mod Stopping
pub mod Opening
pub mod Working
pub mod Following
