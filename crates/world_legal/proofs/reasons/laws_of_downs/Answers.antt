use Rattle.world_legal.proofs.reasons.laws_of_downs.Goals as goal
use Rattle.world_legal.specs.reasons.Downs.{downs-begin, events-keep-downs}
use Rattle.world_legal.specs.reasons.Knowing.{events-keep-known, known-begin}

pub returns : goal.returns
returns c = record { begin = downs-begin; events = events-keep-downs; known_begin = known-begin; known = events-keep-known }
