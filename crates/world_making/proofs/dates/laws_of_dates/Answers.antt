use Rattle.world_making.specs.dates.Events.{events-dates}
use Rattle.world_making.specs.dates.Going.{makers-ask}
use Rattle.world_making.specs.dates.Known.{events-know}
use Rattle.world_making.proofs.dates.laws_of_dates.Goals as goal

pub returns : goal.returns
returns c = record { kept = events-dates; makers = makers-ask; known = events-know }
