use Rattle.world_causes.specs.restarts.CutLaws.{cuts-keep}
use Rattle.world_causes.specs.restarts.DecideLaws.{decision-keeps}
use Rattle.world_causes.specs.restarts.OpenLaws.{failure-keeps, given_up-keeps, numbers-keep, opening-keeps, sweep-keeps}
use Rattle.world_causes.proofs.restarts.laws_of_restarts.Goals as goal

pub returns : goal.returns
returns c = record {
  cut = cuts-keep;
  opening = opening-keeps;
  failure = failure-keeps;
  given_up = given_up-keeps;
  swept = sweep-keeps;
  numbers = numbers-keep;
  decision = λ r o held h w x e given may its some attempts k l. decision-keeps r o held h w x e given may attempts k l its some;
}
