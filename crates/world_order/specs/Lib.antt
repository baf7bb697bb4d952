-- The order of real time, in runs of any script.
pub mod Standing
pub mod Epochs
pub mod Clients
pub mod Events
pub mod Accesses
pub mod Lines
pub mod Runs
