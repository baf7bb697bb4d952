use Rattle.world_letters.specs.apart.Sparing.{event-spares}
use Rattle.world_letters.specs.apart.Sweeping.{sweeps-by_downs}
use Rattle.world_letters.specs.apart.Taking.{aggregate-stays, event-takes, restart-stays}
use Rattle.world_letters.proofs.apart.laws_of_sparing.Goals as goal

pub returns : goal.returns
returns c = record { spared = event-spares; numbers = event-takes; restarts = restart-stays; aggregates = aggregate-stays; swept = sweeps-by_downs }
