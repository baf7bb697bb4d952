use Rattle.world_determined.specs.Picks.{picks-are_one, same-are_due}
use Rattle.world_determined.proofs.laws_of_picks.Goals as goal

pub returns : goal.returns
returns c = record { due = same-are_due; letters = picks-are_one }
