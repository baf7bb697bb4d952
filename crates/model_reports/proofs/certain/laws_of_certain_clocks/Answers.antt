use Rattle.model_reports.specs.Certain.{none-uncertain}
use Rattle.model_reports.proofs.certain.laws_of_certain_clocks.Goals as goal

pub returns : goal.returns
returns c = none-uncertain
