use Rattle.world_causes.specs.outcomes.ClientLaws.{counting-keeps, moving-keeps}
use Rattle.world_causes.specs.outcomes.HearLaws.{hearing-keeps}
use Rattle.world_causes.specs.outcomes.Laws.{decided-told, failed-undecided, happenings-keep, outcomes-begin, sweeping-keeps, targets-keep, told-undecided}
use Rattle.world_causes.proofs.outcomes.laws_of_outcomes.Goals as goal

pub returns : goal.returns
returns c = record {
  begin = outcomes-begin;
  moves = moving-keeps;
  counting = counting-keeps;
  hearing = hearing-keeps;
  targets = targets-keep;
  happenings = happenings-keep;
  swept = sweeping-keeps;
  told = told-undecided;
  failed = failed-undecided;
  decided = decided-told;
}
