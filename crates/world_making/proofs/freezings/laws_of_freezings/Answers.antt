use Rattle.world_making.specs.freezings.Events.{freezings-begin}
use Rattle.world_making.specs.freezings.Laws.{events-keep}
use Rattle.world_making.proofs.freezings.laws_of_freezings.Goals as goal

pub returns : goal.returns
returns c = record { begin = freezings-begin; kept = events-keep }
