use Rattle.vos_punches.proofs.Changed.{added_punch, added_update}
use Rattle.vos_punches.proofs.laws.laws_of_adding.Goals as goal

pub returns-clause-update : goal.returns-clause-update
returns-clause-update c v vs ws f h u a = added_update v vs ws f h u a

pub returns-clause-punch : goal.returns-clause-punch
returns-clause-punch c v vs ws f g h u a i = added_punch v vs ws f g h u a i
