use Rattle.std.proofs.Common.{◌≡◌, ◌++◌, drop, map}
use Rattle.base_text.specs.Rows.{rows_text}
use Rattle.daos_summary.specs.Summaries.{ending_row}
use Rattle.daos_summary.proofs.rows.push_endings.Given as goal

abbrev pub invariant-loop-ending : goal.invariant-loop-ending
invariant-loop-ending l =
    l.out.items ++ rows_text (map (ending_row l.lines) (drop l.ending-index l.endings)) ≡ l.initial.out.items ++ rows_text (map (ending_row l.lines) l.endings)
