-- Who tells that an attempt is unresolved by itself, where snapshots are made and containers aggregated.
pub mod Refusals
pub mod RefusalEvents
pub mod Tells
pub mod Laws
pub mod Events
