-- Which reports are legal, and when the order of their epochs is that of real time, for the crates above.
pub use Rattle.run_targets.specs.Ends.{IsInRealTime, IsLegal}
