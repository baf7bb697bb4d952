use Rattle.std.proofs.Common.{◌≡◌, ◌+◌, ◌∙◌, Err, sym, ap, arith, length, subst}
use Rattle.std.proofs.lemmas.Result.{err_from_is_err_and}
use Rattle.base_types.specs.declared.report.Report.{Report}
use Rattle.base_text.specs.Parts.{parts_of}
use Rattle.base_text.specs.Steps.{steps, steps-cons_ok}
use Rattle.report_reader.specs.Reads.{ReadsAt}
use Rattle.report_reader.specs.Reading.{step}
use Rattle.report_reader.proofs.Loop.{fault_of, end_of, few_lines}
use Rattle.report_reader.proofs.Answered.{text_answered, back_answered, form_answered, bad_answered}
use Rattle.report_reader.proofs.report.read_report.Goals as goal

pub overflow_add-at : goal.overflow_add-at
overflow_add-at c = omega (arith, few_lines c.args.bytes.now, ap length c.in-Some.ensures, c.loop-line.invariant.count)

pub returns-in_err-stage : goal.returns-in_err-stage
returns-in_err-stage c =
    let p = err_from_is_err_and c.from_residual-in_err-stage.result c.from_residual-in_err-stage.ensures.1 in
    let l = c.loop-line in
    let marks = c.as_slice-marks.result.now in
    let are = c.as_slice-marks.ensures ∙ c.in_ok-table.ensures in
    let so_far = ap (steps (step c.args.script.now marks) (l.at + 1) l.stage) (sym c.in-Some.ensures) ∙ l.invariant.so_far in
    let s = c.args.script.now in
    let bytes = c.args.bytes.now in
    let e = c.in_err-stage.field-0.0 in
    let exact = fault_of s bytes marks are e (l.at + 1) l.stage c.in-Some.line.now c.take_part.new.self c.in_err-stage.ensures so_far in
    rw (p.1, p.2) (record { exact = exact; text = tt; back = back_answered s bytes (Err e) exact; form = λ named are. tt; first_bad = bad_answered s bytes (Err e) exact })

pub loop-line-preserved : goal.loop-line-preserved
loop-line-preserved c =
    let l = c.loop-line in
    let marks = c.as_slice-marks.result.now in
    record {
      so_far = sym (steps-cons_ok (step c.args.script.now marks) (l.at + 1) l.stage c.in-Some.line.now c.take_part.new.self c.in_ok-stage.stage c.in_ok-stage.ensures)
          ∙ ap (steps (step c.args.script.now marks) (l.at + 1) l.stage) (sym c.in-Some.ensures) ∙ l.invariant.so_far;
      count = omega (arith, ap length c.in-Some.ensures, l.invariant.count);
    }

pub returns : goal.returns
returns c =
    let l = c.loop-line in
    let marks = c.as_slice-marks.result.now in
    let are = c.as_slice-marks.ensures ∙ c.in_ok-table.ensures in
    let all : l.at ≡ length (parts_of 10 c.args.bytes.now) = omega (arith, l.invariant.count, ap length c.in_default.ensures.0) in
    let e = end_of c.args.script.now c.args.bytes.now marks are l.at (l.at + 1) l.stage (ap (steps (step c.args.script.now marks) (l.at + 1) l.stage) (sym c.in_default.ensures.0) ∙ l.invariant.so_far) all in
    let exact = subst (λ t. ReadsAt (λ (q : Report). q) c.finished.result t) (sym e) c.finished.ensures in
    let s = c.args.script.now in
    let bytes = c.args.bytes.now in
    let r = c.finished.result in
    record { exact = exact; text = text_answered s bytes r exact; back = back_answered s bytes r exact; form = form_answered s bytes r exact; first_bad = bad_answered s bytes r exact }
