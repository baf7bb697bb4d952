use Rattle.std.proofs.Common.{sym, ◌∙◌}
use Rattle.vos_check_base.proofs.Steps.{linked, linked_none, not_linked}
use Rattle.vos_check_base.proofs.fresh.Fresh.lead.Goals as goal

pub returns-then-block-eq0 : goal.returns-then-block-eq0
returns-then-block-eq0 c d l m = linked_none d c.args.at c.args.block l _ m c.if-block-eq0.true

pub returns-then-not-has : goal.returns-then-not-has
returns-then-not-has c d l m = not_linked d c.args.at c.args.block l _ m c.if-block-eq0.false (sym c.has.ensures ∙ c.if-not-has.true)

pub returns : goal.returns
returns c d l m = linked d c.args.at c.args.block l _ _ m c.if-block-eq0.false (sym c.has.ensures ∙ c.if-not-has.false) c.take.ensures
