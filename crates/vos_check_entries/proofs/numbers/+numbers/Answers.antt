use Rattle.std.proofs.Common.{sym, ◌∙◌}
use Rattle.std.proofs.lemmas.Result.{err_from_is_err_and}
use Rattle.vos_check_entries.specs.Nodes.{is_node}
use Rattle.vos_check_entries.proofs.NumberSteps.{adds_more, numbers_bad, numbers_end, numbers_none, numbers_unended}
use Rattle.vos_check_entries.proofs.numbers.+numbers.Goals as goal

pub returns-then-left-eq0 : goal.returns-then-left-eq0
returns-then-left-eq0 t c led = numbers_none (is_node c.args.nodes.now c.args.of.now) c.args.last c.args.left c.args.at c.args.bytes.now c.args.seen.now led c.if-left-eq0.true

pub returns-in_err-end : goal.returns-in_err-end
returns-in_err-end t c =
    let p = err_from_is_err_and c.from_residual.result c.from_residual.ensures.1 in
    rw (p.1, p.2) (λ led. numbers_unended (is_node c.args.nodes.now c.args.of.now) c.args.last c.args.left c.args.at _ c.args.bytes.now c.args.seen.now led c.if-left-eq0.false (sym c.four_at-number.ensures ∙ c.if-number-eq0.true) (c.in_err-end.ensures led))

pub returns-then-number-eq0 : goal.returns-then-number-eq0
returns-then-number-eq0 t c led = numbers_end (is_node c.args.nodes.now c.args.of.now) c.args.last c.args.left c.args.at c.args.bytes.now c.args.seen.now led c.if-left-eq0.false (sym c.four_at-number.ensures ∙ c.if-number-eq0.true) (c.in_ok-end.ensures led)

pub returns-in_err-is_added : goal.returns-in_err-is_added
returns-in_err-is_added t c =
    let p = err_from_is_err_and c.from_residual-in_err-is_added.result c.from_residual-in_err-is_added.ensures.1 in
    rw (p.1, p.2) tt

pub returns-then-not-is_added : goal.returns-then-not-is_added
returns-then-not-is_added t c led =
    numbers_bad (is_node c.args.nodes.now c.args.of.now) c.args.last c.args.left c.args.at c.four_at-number.result c.args.bytes.now c.args.seen.now led c.if-left-eq0.false c.four_at-number.ensures c.if-number-eq0.false
    (sym c.in_ok-is_added.ensures.told ∙ c.if-not-is_added.true)

pub returns : goal.returns
returns t c =
    adds_more (is_node c.args.nodes.now c.args.of.now) c.args.last c.args.left c.args.at c.four_at-number.result c.args.bytes.now c.args.seen.now c.add_node.new.seen c.numbers.new.seen c.numbers.result c.if-left-eq0.false c.four_at-number.ensures c.if-number-eq0.false
    (sym c.in_ok-is_added.ensures.told ∙ c.if-not-is_added.false) (c.in_ok-is_added.ensures.added c.if-not-is_added.false) c.numbers.ensures
