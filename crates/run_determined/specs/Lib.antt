-- That a run in an order is determined, but for what the rules leave open.
pub mod Agreeing
pub mod Knowing
pub mod Leaving
pub mod Clocks
pub mod Kinds
pub mod Events
pub mod Turns
pub mod Growing
pub mod Rounds
pub mod Draws
pub mod Orders
pub mod Failing
pub mod Reports
