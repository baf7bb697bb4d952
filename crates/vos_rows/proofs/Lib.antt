pub mod Putting
pub mod Sweeping
pub mod Settled
