use Rattle.vos_standing.proofs.Committed.{closed_it_is_kept, contents_stand, same_is_quiet}
use Rattle.vos_standing.proofs.laws.what_is_committed_stands.Goals as goal

pub returns-clause-content : goal.returns-clause-content
returns-clause-content c = contents_stand

pub returns-clause-closed : goal.returns-clause-closed
returns-clause-closed c = closed_it_is_kept

pub returns-clause-quiet : goal.returns-clause-quiet
returns-clause-quiet c = same_is_quiet
