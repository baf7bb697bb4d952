use Rattle.std.proofs.Common.{◌≡◌, ◌++◌, drop, map}
use Rattle.base_text.specs.Rows.{rows_text}
use Rattle.report_writer.specs.Reports.{cond_row}
use Rattle.report_writer.proofs.attempts.push_conds.Given as goal

abbrev pub invariant-loop-cond : goal.invariant-loop-cond
invariant-loop-cond l = l.out.items ++ rows_text (map cond_row (drop l.cond-index l.conds)) ≡ l.initial.out.items ++ rows_text (map cond_row l.conds)
