use Rattle.vos_keeping.proofs.Settling.{abort_settles, commit_settles, confirm_settles, forget_settles}
use Rattle.vos_keeping.proofs.laws.settled_is_kept.Goals as goal

pub returns-clause-commit : goal.returns-clause-commit
returns-clause-commit c = commit_settles

pub returns-clause-confirm : goal.returns-clause-confirm
returns-clause-confirm c = confirm_settles

pub returns-clause-forget : goal.returns-clause-forget
returns-clause-forget c = forget_settles

pub returns-clause-abort : goal.returns-clause-abort
returns-clause-abort c = abort_settles
