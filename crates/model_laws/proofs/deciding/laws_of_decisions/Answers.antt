use Rattle.model_laws.specs.DecidingLaws.{aborting-keeps, holders-keep, others-keep, settling-keeps, stores-keep}
use Rattle.model_laws.proofs.deciding.laws_of_decisions.Goals as goal

pub returns : goal.returns
returns c = record {
  store = stores-keep;
  abort = aborting-keeps;
  settle = settling-keeps;
  holders = holders-keep;
  others = others-keep;
}
