-- The moves of a client as definitions, and where a client is in its commands.
pub mod Moves
pub mod Places
