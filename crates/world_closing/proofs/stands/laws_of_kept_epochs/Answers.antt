use Rattle.world_closing.proofs.stands.laws_of_kept_epochs.Goals as goal
use Rattle.world_closing.specs.stands.Covered.{all-runs-stay_within}
use Rattle.world_answers.specs.world_making.freezings.Snapped.{all-events-snap_so}

pub returns : goal.returns
returns c = record { snapped = all-events-snap_so; within = all-runs-stay_within }
