use Rattle.model_laws.specs.TargetLaws.{agreeing-hold, as_of-dkeys, as_of-set, families-agree, families-dkeys, families-give, family-leaders, members-parts, openings-match, own-here}
use Rattle.model_laws.specs.AkeyLaws.{families-same}
use Rattle.model_laws.proofs.targets.laws_of_targets.Goals as goal

pub returns : goal.returns
returns c = record {
  parts = members-parts;
  set = as_of-set;
  leaders = family-leaders;
  agreeing = agreeing-hold;
  here = own-here;
  openings = openings-match;
  give = families-give;
  same = families-same;
  agree = families-agree;
  families = families-dkeys;
  dkeys = as_of-dkeys;
}
