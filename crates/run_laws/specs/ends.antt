-- How a run of clients and targets begins, and what it comes to.
pub mod Starts
pub mod Standing
pub mod Arming
pub mod FuseLaws
pub mod Comes
pub mod Known
pub mod Places
pub mod Begun
pub mod Armed
pub mod Lasts
pub mod Keeping
pub mod Caused
pub mod Ending
