use Rattle.std.proofs.Common.{◌≡◌, ◌++◌}
use Rattle.base_text.specs.Rows.{rows_text}
use Rattle.daos_summary.specs.Summaries.{issued_rows}
use Rattle.daos_summary.proofs.rows.push_issued.Given as goal

abbrev pub invariant-loop-target : goal.invariant-loop-target
invariant-loop-target l = l.out.items ≡ l.initial.out.items ++ rows_text (issued_rows l.lines l.target)
