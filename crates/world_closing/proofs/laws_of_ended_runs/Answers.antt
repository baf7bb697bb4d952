use Rattle.world_closing.specs.Whole.{all-runs-end_legal}
use Rattle.world_closing.proofs.laws_of_ended_runs.Goals as goal

pub returns : goal.returns
returns c = record { legal = all-runs-end_legal }
