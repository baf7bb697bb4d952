-- What crates above name of the crates below, passed on to them.
pub mod Legal
pub mod Readers
pub mod Standing
pub mod Owners
