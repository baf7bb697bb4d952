use Rattle.daos_summary.specs.Summaries.{issued_row}
use Rattle.daos_summary.proofs.Joins.{range_more}
use Rattle.daos_summary.proofs.rows.push_issued.Goals as goal

pub loop-target-preserved : goal.loop-target-preserved
loop-target-preserved c = range_more (issued_row c.args.lines.now) _ _ _ c.loop-target.target c.loop-target.invariant c.in_ok-push_issued_by.ensures
