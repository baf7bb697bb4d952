use Rattle.world_making.specs.makers.Events.{event-keeps, makers-begin, makers-write}
use Rattle.world_making.proofs.makers.laws_of_makers.Goals as goal

pub returns : goal.returns
returns c = record { begin = makers-begin; kept = event-keeps; write = makers-write }
