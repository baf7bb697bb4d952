use Rattle.std.proofs.Common.{◌≡◌, ◌++◌, length, map}
use Rattle.base_text.specs.Rows.{rows_text}
use Rattle.report_writer.specs.Reports.{cond_row, conds_after, conds_until}
use Rattle.report_writer.proofs.attempts.push_conds_until.Given as goal

abbrev pub invariant-loop-cond : goal.invariant-loop-cond
invariant-loop-cond l = record {
  rows : l.out.items ++ rows_text (map cond_row (conds_until l.op l.rest)) ≡ l.initial.out.items ++ rows_text (map cond_row (conds_until l.op l.conds));
  rest : conds_after l.op l.rest ≡ conds_after l.op l.conds;
}

abbrev pub decreases-loop-cond : goal.decreases-loop-cond
decreases-loop-cond l = length l.rest
