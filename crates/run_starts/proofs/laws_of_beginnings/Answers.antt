use Rattle.run_starts.specs.Begins.{opened-stores-begin}
use Rattle.run_starts.specs.Runs.{opened-runs-begin}
use Rattle.run_starts.proofs.laws_of_beginnings.Goals as goal

pub returns : goal.returns
returns c = record { stores = opened-stores-begin; runs = opened-runs-begin }
