-- What crates above name of the facts about a run that goes on, passed on to them.
pub use Rattle.world_closing.specs.Below.{begins-well, durable_of, durables_of, first_tracker, runs-have_grounds, runs-hear_all_rightly, snaps_held}
pub use Rattle.world_closing.specs.Rules.{rules_of}
