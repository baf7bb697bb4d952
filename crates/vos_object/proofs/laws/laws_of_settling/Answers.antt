use Rattle.vos_object.proofs.Settled.{aborted_each, committed_each}
use Rattle.vos_object.proofs.laws.laws_of_settling.Goals as goal

pub returns-clause-commit : goal.returns-clause-commit
returns-clause-commit c a ns vs named = committed_each a ns vs named

pub returns-clause-abort : goal.returns-clause-abort
returns-clause-abort c a ns vs named = aborted_each a ns vs named
