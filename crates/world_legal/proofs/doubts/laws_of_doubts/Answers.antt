use Rattle.world_legal.proofs.doubts.laws_of_doubts.Goals as goal
use Rattle.world_legal.specs.doubts.Events.{doubts-begin}

pub returns : goal.returns
returns c = record { begin = doubts-begin }
