use Rattle.std.proofs.Common.{refl}
use Rattle.world_same.proofs.Taken.{one_more, whole}
use Rattle.world_same.proofs.lists.same_items.Goals as goal

pub loop-i-init : goal.loop-i-init
loop-i-init g c = refl

pub loop-i-preserved : goal.loop-i-preserved
loop-i-preserved g c =
    one_more c.args.one.now c.args.two.now c.loop-i.i c.index-one-i.result c.index-two-i.result c.if-one-two.false c.loop-i-test.true
    c.loop-i.invariant c.index-one-i.is c.index-two-i.is (c.is_same.ensures.0 c.if-not-is_same.false)

pub returns : goal.returns
returns g c = (λ _. whole c.args.one.now c.args.two.now c.loop-i.i c.if-one-two.false c.loop-i-test.false c.loop-i.invariant, λ _. refl)
