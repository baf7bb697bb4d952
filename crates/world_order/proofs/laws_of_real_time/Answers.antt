use Rattle.world_order.specs.Events.{all-events-keep_order}
use Rattle.world_order.specs.Lines.{lines-are_consistent}
use Rattle.world_order.specs.Runs.{all-runs-are_consistent, runs-begin_in_order, runs-stand_in_order}
use Rattle.world_order.proofs.laws_of_real_time.Goals as goal

pub returns : goal.returns
returns c = record { events = all-events-keep_order; begin = runs-begin_in_order; moments = runs-stand_in_order; lines = lines-are_consistent; runs = all-runs-are_consistent }
