use Rattle.vos_punches.proofs.Covering.{covering_last}
use Rattle.vos_punches.proofs.laws.law_of_covering.Goals as goal

pub returns : goal.returns
returns c e p vs f h a = covering_last e p vs f h a
