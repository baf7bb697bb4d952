use Rattle.vos_punches.proofs.Changed.{filtered_updates, removed_punch, removed_updates}
use Rattle.vos_punches.proofs.laws.laws_of_removing.Goals as goal

pub returns-clause-updates : goal.returns-clause-updates
returns-clause-updates c goes vs f h a = removed_updates goes vs f h a

pub returns-clause-punch : goal.returns-clause-punch
returns-clause-punch c goes p m vs f g h a i = removed_punch goes p m vs f g h a i

pub returns-clause-filtered : goal.returns-clause-filtered
returns-clause-filtered c stays vs f h a = filtered_updates stays vs f h a
