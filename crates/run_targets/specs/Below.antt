-- What crates above name of the laws of runs and of targets, passed on to them.
pub use Rattle.run_loop.specs.Below.{AllBeginInTurn, AllTellInOrder, AreAlike, AreFindable, AreServed, CameInOrder, IsServed, TargetOf, TellsInOrder, length-set, served-by-runs, served-on, served-same, state_of}
