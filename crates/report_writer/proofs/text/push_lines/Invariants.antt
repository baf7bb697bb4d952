use Rattle.std.proofs.Common.{◌≡◌, ◌++◌, drop, flat_map}
use Rattle.base_text.specs.Rows.{rows_text}
use Rattle.report_writer.specs.Reports.{line_rows}
use Rattle.report_writer.proofs.text.push_lines.Given as goal

abbrev pub invariant-loop-line : goal.invariant-loop-line
invariant-loop-line l = l.out.items ++ rows_text (flat_map (line_rows l.script) (drop l.line-index l.lines)) ≡ l.initial.out.items ++ rows_text (flat_map (line_rows l.script) l.lines)
