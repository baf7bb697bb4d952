use Rattle.vos_punches.proofs.Changed.{committed, committed_those}
use Rattle.vos_punches.proofs.laws.laws_of_committing.Goals as goal

pub returns-clause-attempt : goal.returns-clause-attempt
returns-clause-attempt c at vs f a = committed at vs f a

pub returns-clause-those : goal.returns-clause-those
returns-clause-those c test vs f a = committed_those test vs f a
