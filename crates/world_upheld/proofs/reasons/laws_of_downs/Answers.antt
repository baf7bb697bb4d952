use Rattle.world_upheld.proofs.reasons.laws_of_downs.Goals as goal
use Rattle.world_upheld.specs.reasons.Knowing.{all-events-keep_known}

pub returns : goal.returns
returns c = record { known = all-events-keep_known }
