use Rattle.world_letters.specs.lives.Counting.{counts-on, run-counts}
use Rattle.world_letters.specs.lives.Events.{cut-lasts_so, event-keeps, lives-begin}
use Rattle.world_letters.specs.lives.Legal.{lives-in_order, part-in_order, stops-legal}
use Rattle.world_letters.proofs.lives.laws_of_lives.Goals as goal

pub returns : goal.returns
returns c = record { begin = lives-begin; kept = event-keeps; told = run-counts; counted = counts-on; leases = cut-lasts_so; in_order = lives-in_order; parts = part-in_order; legal = stops-legal }
