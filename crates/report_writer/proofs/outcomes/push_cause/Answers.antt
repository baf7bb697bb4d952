use Rattle.report_writer.proofs.Joins.{two_added}
use Rattle.report_writer.proofs.outcomes.push_cause.Goals as goal

pub returns-in_ok-push_access-in-ReadLater : goal.returns-in_ok-push_access-in-ReadLater
returns-in_ok-push_access-in-ReadLater c = rw c.in-ReadLater.is (two_added _ _ _ _ _ c.in_ok-push_word-in-ReadLater.ensures c.in_ok-push_access-in-ReadLater.ensures)

pub returns-in_ok-push_attempt_id-in-Unresolved : goal.returns-in_ok-push_attempt_id-in-Unresolved
returns-in_ok-push_attempt_id-in-Unresolved c = rw c.in-Unresolved.is (two_added _ _ _ _ _ c.in_ok-push_word-in-Unresolved.ensures c.in_ok-push_attempt_id-in-Unresolved.ensures)
