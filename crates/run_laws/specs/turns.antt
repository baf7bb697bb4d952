-- Turns of actors where targets may stop and open again, in an order.
pub mod Turns
pub mod Aggregates
pub mod Orders
pub mod Faults
pub mod Keeping
pub mod Staying
pub mod OrderLaws
pub mod Readings
pub mod Numbers
pub mod Drawn
pub mod StopLines
pub mod Raising
