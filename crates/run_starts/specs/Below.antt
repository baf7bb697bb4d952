-- What crates above name of how runs begin, passed on to them.
pub use Rattle.world_closing.specs.Below.{AreRulesInForm}
