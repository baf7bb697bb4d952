pub mod Walking
pub mod Reading
mod Alive
mod Naming
mod Full
mod Settled
mod NamesBelow
mod Ends
mod Ranges
mod Indexed
