use Rattle.report_writer.specs.Reports.{line_rows}
use Rattle.report_writer.proofs.Joins.{rows_more}
use Rattle.report_writer.proofs.text.push_lines.Goals as goal

pub loop-line-preserved : goal.loop-line-preserved
loop-line-preserved c =
    rows_more (line_rows c.args.script.now) _ _ _ _ _ c.line-item.result c.loop-line-test.true c.line-item.is c.in_ok-push_line.ensures c.loop-line.invariant
