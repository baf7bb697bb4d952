use Rattle.report_writer.proofs.Joins.{details_more}
use Rattle.report_writer.proofs.attempts.push_details.Goals as goal

pub loop-got-preserved : goal.loop-got-preserved
loop-got-preserved c =
    details_more _ _ _ _ _ _ _ _ c.got-item.result c.loop-got-test.true c.got-item.is (c.in_ok-rest.ensures.rows) c.in_ok-rest.ensures.rest c.in_ok-push_got.ensures c.loop-got.invariant
