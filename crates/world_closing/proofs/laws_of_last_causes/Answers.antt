use Rattle.world_closing.proofs.laws_of_last_causes.Goals as goal
use Rattle.world_closing.specs.Causes.{last-causes_show}
use Rattle.world_closing.specs.Dates.{dates-apart}

pub returns : goal.returns
returns c = record { shown = last-causes_show; apart = dates-apart }
