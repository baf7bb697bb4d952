-- One turn of an actor, and what is left of its stores.
pub mod Turns
