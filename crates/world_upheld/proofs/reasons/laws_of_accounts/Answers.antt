use Rattle.world_upheld.proofs.reasons.laws_of_accounts.Goals as goal
use Rattle.world_upheld.specs.reasons.Events.{all-events-keep_accounts}
use Rattle.world_upheld.specs.reasons.Hearing.{all-given-up_told, all-hear-of_stops}
use Rattle.world_upheld.specs.reasons.Runs.{accounts-began, runs-are_accounted}

pub returns : goal.returns
returns c = record { events = all-events-keep_accounts; begin = accounts-began; runs = runs-are_accounted; clients = all-hear-of_stops; given_up = all-given-up_told }
