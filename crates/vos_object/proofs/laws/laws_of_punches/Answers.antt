use Rattle.vos_object.proofs.Punching.{after_commit, after_gone, after_none, after_of_update, after_punch, after_update}
use Rattle.vos_object.proofs.laws.laws_of_punches.Goals as goal

pub returns-clause-update : goal.returns-clause-update
returns-clause-update c epoch by w vs ws f h u a = after_update epoch by w vs ws f h u a

pub returns-clause-punch : goal.returns-clause-punch
returns-clause-punch c epoch by w vs ws f g h u a i = after_punch epoch by w vs ws f g h u a i

pub returns-clause-commit : goal.returns-clause-commit
returns-clause-commit c t p vs f k a = after_commit t p vs f k a

pub returns-clause-of_update : goal.returns-clause-of_update
returns-clause-of_update c t p vs f k a = after_of_update t p vs f k a

pub returns-clause-left : goal.returns-clause-left
returns-clause-left c t p vs f h a = after_none t p vs f h a

pub returns-clause-gone : goal.returns-clause-gone
returns-clause-gone c t p vs f g u k h a i = after_gone t p vs f g u k h a i
