pub mod Costs
pub mod Counted
pub mod Stops
pub mod Plain
pub mod Laws
