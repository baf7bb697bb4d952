use Rattle.model_laws.specs.PruneLaws.{prunes-now, prunes-order, prunes-sights}
use Rattle.model_laws.specs.PruneMatchLaws.{prunes-answers, prunes-given, prunes-matches, prunes-others, prunes-whole}
use Rattle.model_laws.specs.StandLaws.{prunes-stand}
use Rattle.model_laws.proofs.prunes.laws_of_prunes.Goals as goal

pub returns : goal.returns
returns c = record {
  whole = prunes-whole;
  order = prunes-order;
  sights = prunes-sights;
  now = prunes-now;
  answers = prunes-answers;
  matches = prunes-matches;
  others = prunes-others;
  given = prunes-given;
  stand = prunes-stand;
}
