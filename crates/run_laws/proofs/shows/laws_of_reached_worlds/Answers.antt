use Rattle.run_laws.specs.shows.Reopening.{reached-swept}
use Rattle.run_laws.proofs.shows.laws_of_reached_worlds.Goals as goal

pub returns : goal.returns
returns c = record { swept = reached-swept }
