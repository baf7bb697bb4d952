use Rattle.world_refusals.specs.Never.{alone-runs-never_restart}
use Rattle.world_refusals.proofs.alone.laws_of_only_client_runs.Goals as goal

pub returns : goal.returns
returns c = alone-runs-never_restart
