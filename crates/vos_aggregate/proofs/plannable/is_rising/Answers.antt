use Rattle.std.proofs.Common.{◌≡◌, ◌+◌, ◌-◌, true, get_or, sym, ◌∙◌, ap, arith}
use Rattle.daos_model.specs.Answers.{is_before}
use Rattle.daos_model.specs.Durables.{version_key}
use Rattle.daos_model.specs.Ordered.{is_rising}
use Rattle.vos_aggregate.proofs.Pairs.{pair-rises, rises-at_end}
use Rattle.vos_aggregate.proofs.plannable.is_rising.Goals as goal

pub loop-i-preserved : goal.loop-i-preserved
loop-i-preserved c =
    let vs = c.args.versions.now in
    let v = c.index-versions-i.result in
    let w = c.index-versions-i-in-loop-i.result in
    let before : is_before (version_key v) (version_key w) ≡ true = sym c.is_version_before.ensures ∙ c.if-not-is_version_before.false in
    pair-rises vs c.loop-i.i (c.loop-i.i - 1) v w (omega arith) (omega arith) (is_rising version_key vs) c.loop-i.invariant (c.loop-i.i + 1 - 1) (omega arith)
    (ap (λ x. is_before (version_key x) (version_key (get_or vs c.loop-i.i w))) (sym c.index-versions-i.is)
    ∙ ap (λ x. is_before (version_key v) (version_key x)) (sym c.index-versions-i-in-loop-i.is)
    ∙ before)

pub returns : goal.returns
returns c = rises-at_end c.args.versions.now (c.loop-i.i - 1) (omega arith) ∙ c.loop-i.invariant
