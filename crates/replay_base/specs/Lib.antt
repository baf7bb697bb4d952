-- A target's turn, followed step by step from what is told of it.
pub mod Onward
pub mod Requested
pub mod Issuing
pub mod Leases
pub mod Heard
pub mod Leaving
