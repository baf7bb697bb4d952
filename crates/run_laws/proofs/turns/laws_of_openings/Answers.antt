use Rattle.run_laws.specs.turns.Raising.{turns-raise}
use Rattle.run_laws.proofs.turns.laws_of_openings.Goals as goal

pub returns : goal.returns
returns c = record { raise = turns-raise }
