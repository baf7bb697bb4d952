use Rattle.model_lone.specs.Unstopped.{none-follows}
use Rattle.model_lone.proofs.unstopped.laws_of_unstopped_lines.Goals as goal

pub returns : goal.returns
returns c = none-follows
