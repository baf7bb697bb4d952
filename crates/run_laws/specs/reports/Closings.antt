-- The report of a run's lines at each moment, for the crates above.
pub use Rattle.world_closing.specs.Below.{declared_conts, durable_of, durables_of, first_tracker, report_over}
pub use Rattle.world_closing.specs.Rules.{rules_of}
