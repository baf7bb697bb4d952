use Rattle.vos_check_region.proofs.Judging.{judged}
use Rattle.vos_check_region.proofs.laws.logs_are_judged.Goals as goal

pub returns : goal.returns
returns c = judged
