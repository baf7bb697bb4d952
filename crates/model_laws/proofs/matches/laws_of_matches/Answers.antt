use Rattle.model_laws.specs.ServeLaws.{served-all}
use Rattle.model_laws.specs.MatchLaws.{aborts-keep, commits-keep, decisions-below, decisions-keep, decisions-nothing, marks-rise, matches-give, prepares-keep, same-below, same-keep, same-maps}
use Rattle.model_laws.proofs.matches.laws_of_matches.Goals as goal

pub returns : goal.returns
returns c = record {
  give = matches-give;
  rise = marks-rise;
  decide = decisions-keep;
  below = decisions-below;
  nothing = decisions-nothing;
  maps = same-maps;
  same = same-keep;
  same_below = same-below;
  commit = commits-keep;
  abort = aborts-keep;
  prepare = prepares-keep;
  served = served-all;
}
