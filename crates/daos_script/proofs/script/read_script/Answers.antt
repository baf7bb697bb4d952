use Rattle.std.proofs.Common.{◌≤◌, ◌∙◌, arith}
use Rattle.std.proofs.lemmas.Result.{err_from_is_err_and}
use Rattle.daos_script.proofs.Loop.{all_read, at_most, end_fails, ended_form, line_fails, none_read, one_read, own_form}
use Rattle.daos_script.proofs.script.read_script.Goals as goal

pub loop-line-init : goal.loop-line-init
loop-line-init c = none_read c.args.targets c.args.bytes.now c.first_bytes.result.now c.long_line-long.result c.new-reading.result c.new-lines.result c.long_line-long.ensures c.first_bytes.ensures.exact c.new-lines.ensures c.new-reading.ensures

pub with_line-requires-clause-before : goal.with_line-requires-clause-before
with_line-requires-clause-before c = let l = c.loop-line in at_most c.args.targets c.args.bytes.now c.long_line-long.result l.at l.reading l.lines l.invariant c.in-Some.line.now c.take_part.new.self c.in-Some.ensures

pub with_line-requires-clause-form : goal.with_line-requires-clause-form
with_line-requires-clause-form c = let l = c.loop-line in own_form c.args.targets c.args.bytes.now c.long_line-long.result l.at l.reading l.lines l.invariant

pub returns-in-Err-clause-exact : goal.returns-in-Err-clause-exact
returns-in-Err-clause-exact c =
    let l = c.loop-line in
    line_fails c.args.targets c.args.bytes.now c.long_line-long.result l.at l.reading l.lines l.invariant c.in-Some.line.now c.take_part.new.self c.in-Some.ensures c.in-Err.no c.in-Err.ensures.exact

pub overflow_add-at : goal.overflow_add-at
overflow_add-at c =
    let l = c.loop-line in
    let most : l.at ≤ 16777217 = at_most c.args.targets c.args.bytes.now c.long_line-long.result l.at l.reading l.lines l.invariant c.in-Some.line.now c.take_part.new.self c.in-Some.ensures in
    omega (arith, most)

pub loop-line-preserved : goal.loop-line-preserved
loop-line-preserved c =
    let l = c.loop-line in
    one_read c.args.targets c.args.bytes.now c.long_line-long.result l.at l.reading l.lines l.invariant c.in-Some.line.now c.take_part.new.self c.in-Some.ensures c.with_line.new.self c.in_default-with_line.ensures.exact c.in_default-with_line.ensures.form

pub returns-in_err-script-clause-exact : goal.returns-in_err-script-clause-exact
returns-in_err-script-clause-exact c =
    let p = err_from_is_err_and c.from_residual.result c.from_residual.ensures.1 in
    let l = c.loop-line in
    rw (p.1, p.2) (end_fails c.args.targets c.args.bytes.now c.long_line-long.result l.at l.reading l.lines l.invariant c.in_err-script.field-0.0 c.in_default.ensures.0 c.in_err-script.ensures)

pub returns-clause-exact : goal.returns-clause-exact
returns-clause-exact c = let l = c.loop-line in all_read c.args.targets c.args.bytes.now c.long_line-long.result l.at l.reading l.lines l.invariant c.in_default.ensures.0 ∙ c.in_ok-script.ensures

pub returns-clause-form : goal.returns-clause-form
returns-clause-form c = let l = c.loop-line in ended_form c.args.targets l.at l.reading c.in_ok-script.script l.invariant.form c.in_ok-script.ensures
