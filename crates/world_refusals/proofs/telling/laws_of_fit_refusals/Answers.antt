use Rattle.world_refusals.specs.Events.{all-events-keep_fit, fit-begins}
use Rattle.world_refusals.specs.Runs.{all-runs-tell_fitly}
use Rattle.world_refusals.proofs.telling.laws_of_fit_refusals.Goals as goal

pub returns : goal.returns
returns c = record { begin = fit-begins; kept = all-events-keep_fit; runs = all-runs-tell_fitly }
