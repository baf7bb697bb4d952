use Rattle.run_laws.specs.turns.StopLines.{turns-tell_stops}
use Rattle.run_laws.proofs.turns.laws_of_stops.Goals as goal

pub returns : goal.returns
returns c = record { tell = turns-tell_stops }
