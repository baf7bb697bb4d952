use Rattle.world_causes.specs.firsts.Events.{event-keeps, firsts-begin}
use Rattle.world_causes.proofs.firsts.laws_of_firsts.Goals as goal

pub returns : goal.returns
returns c = record { begin = firsts-begin; kept = event-keeps }
