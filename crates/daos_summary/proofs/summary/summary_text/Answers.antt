use Rattle.std.proofs.Common.{◌≡◌, map, codes, subst, List}
use Rattle.base_types.specs.declared.report.Line.{Line}
use Rattle.base_text.specs.Rows.{rows_text}
use Rattle.daos_summary.specs.Summaries.{head_row, count_row, ending_row, endings, issued_rows, end_row, summary_rows, summary_text}
use Rattle.daos_summary.proofs.Joins.{whole_text}
use Rattle.daos_summary.proofs.summary.summary_text.Goals as goal

pub returns : goal.returns
unfolding summary_text
returns c =
    let lines = c.as_slice-lines.result.now in
    let report = c.args.report.now in
    let told = whole_text _ _ _ _ _ _ _ (head_row c.args.count report.targets) (count_row (codes "commands") c.in_ok-commands.field-0) (count_row (codes "attempts") c.attempts.result) (map (ending_row lines) endings)
    (issued_rows lines report.targets) (end_row report.down)
    c.new-out.ensures.items c.in_ok-push_head.ensures c.in_ok-push_count.ensures c.in_ok-push_count-2.ensures c.in_ok-push_endings.ensures c.in_ok-push_issued.ensures c.in_ok-push_end.ensures in
    let out = c.push_end.new.out.items in
    let counted : out ≡ rows_text (summary_rows (record report { lines = lines }) c.args.count) = rw (c.in_ok-commands.ensures, c.attempts.ensures) at told in
    subst (λ (ls : List Line). out ≡ rows_text (summary_rows (record report { lines = ls }) c.args.count)) c.as_slice-lines.ensures counted
