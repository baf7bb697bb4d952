use Rattle.vos_keeping.proofs.Going.{all_are_kept, counted_go, rest_count, uncounted_go}
use Rattle.vos_keeping.proofs.laws.removed_is_kept.Goals as goal

pub returns-clause-uncounted : goal.returns-clause-uncounted
returns-clause-uncounted c = uncounted_go

pub returns-clause-counted : goal.returns-clause-counted
returns-clause-counted c = counted_go

pub returns-clause-rest : goal.returns-clause-rest
returns-clause-rest c = rest_count

pub returns-clause-all : goal.returns-clause-all
returns-clause-all c = all_are_kept
