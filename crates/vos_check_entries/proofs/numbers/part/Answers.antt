use Rattle.std.proofs.Common.{◌+◌, ◌*◌, ap}
use Rattle.std.proofs.lemmas.Result.{err_from_is_err_and}
use Rattle.vos_check_base.specs.Answers.{content}
use Rattle.vos_check_base.specs.Sets.{open_of}
use Rattle.vos_check_entries.specs.Nodes.{is_node}
use Rattle.vos_check_entries.proofs.NumberSteps.{part_bad, part_off, part_on}
use Rattle.vos_check_entries.proofs.numbers.part.Goals as goal

pub returns-in_err-next : goal.returns-in_err-next
returns-in_err-next c =
    let p = err_from_is_err_and c.from_residual.result c.from_residual.ensures.1 in
    rw (p.1, p.2) (λ g f led here marks. part_off (content g f) (is_node c.args.nodes.now c.args.of.now) c.args.block _ c.args.seen.now led (c.in_err-next.ensures g f led here marks))

pub returns-in_err-all_numbers : goal.returns-in_err-all_numbers
returns-in_err-all_numbers c =
    let p = err_from_is_err_and c.from_residual-in_err-all_numbers.result c.from_residual-in_err-all_numbers.ensures.1 in
    rw (p.1, p.2) (λ g f led here marks.
    let x = c.in_ok-next.ensures g f led here marks in
    part_bad (content g f) (is_node c.args.nodes.now c.args.of.now) c.args.block (256 * c.from.result + 8) c.in_ok-next.next c.args.bytes.now c.args.seen.now c.all_numbers.new.seen led x.led (open_of c.front.new.fresh) c.in_err-all_numbers.field-0.0 here (ap (λ n. 256 * n + 8) c.from.ensures) x.is c.in_err-all_numbers.ensures)

pub returns : goal.returns
returns c g f led here marks =
    part_on (content g f) (is_node c.args.nodes.now c.args.of.now) c.args.block (256 * c.from.result + 8) c.in_ok-next.next c.args.bytes.now c.args.seen.now c.all_numbers.new.seen led (open_of c.front.new.fresh) here (ap (λ n. 256 * n + 8) c.from.ensures)
    (c.in_ok-next.ensures g f led here marks) c.in_ok-all_numbers.ensures
