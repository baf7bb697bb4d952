use Rattle.std.proofs.Common.{◌≡◌, ◌++◌, drop}
use Rattle.base_text.specs.Rows.{rows_text}
use Rattle.report_writer.specs.Reports.{detail_rows}
use Rattle.report_writer.proofs.attempts.push_details.Given as goal

abbrev pub invariant-loop-got : goal.invariant-loop-got
invariant-loop-got l = l.out.items ++ rows_text (detail_rows l.rest (drop l.got-index l.gots)) ≡ l.initial.out.items ++ rows_text (detail_rows l.conds l.gots)
