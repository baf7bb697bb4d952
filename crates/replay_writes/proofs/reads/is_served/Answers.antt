use Rattle.std.proofs.Common.{◌≡◌, Contains, ◌∙◌, subst, sym}
use Rattle.std.proofs.lemmas.List.Elements.{Contains-get_or}
use Rattle.replay_base.proofs.Starts.{all_so, none_so}
use Rattle.replay_writes.proofs.Reading.{never_there, none_more, nothing_yet}
use Rattle.replay_writes.proofs.reads.is_served.Goals as goal

pub loop-stamp-init : goal.loop-stamp-init
loop-stamp-init c = nothing_yet (λ x. x ≡ c.args.read.now) c.args.stamps.now

pub returns-then-is_same : goal.returns-then-is_same
returns-then-is_same c =
    all_so (subst (Contains c.args.stamps.now) (sym c.stamp-item.is ∙ c.is_same.ensures.0 c.if-is_same.true) (Contains-get_or c.args.stamps.now c.loop-stamp.stamp-index c.stamp-item.result c.loop-stamp-test.true))

pub loop-stamp-preserved : goal.loop-stamp-preserved
loop-stamp-preserved c =
    none_more (λ x. x ≡ c.args.read.now) c.args.stamps.now c.loop-stamp.stamp-index c.stamp-item.result c.is_same.result c.is_same.ensures c.if-is_same.false c.loop-stamp-test.true c.stamp-item.is c.loop-stamp.invariant

pub returns : goal.returns
returns c = none_so (never_there c.args.stamps.now c.args.read.now c.loop-stamp.stamp-index c.loop-stamp-test.false c.loop-stamp.invariant)
