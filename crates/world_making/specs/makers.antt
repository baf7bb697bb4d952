-- Who makes snapshots and aggregates.
pub mod Makers
pub mod Posts
pub mod Laws
pub mod Events
