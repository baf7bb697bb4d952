use Rattle.std.proofs.Common.{arith}
use Rattle.vos_pool_base.proofs.Staging.{small_as, stages_next, was_staged}
use Rattle.vos_pool_base.proofs.opened.stage.Goals as goal

pub loop-change-preserved : goal.loop-change-preserved
loop-change-preserved g c =
    let so_far = c.loop-change.invariant in
    stages_next _ _ _ c.args.changes.now c.loop-change.change-index _ c.range-range.result _ _ so_far c.loop-change-test.true c.range-range.ensures.range c.place.ensures c.bytes.ensures
    (was_staged c.stage.result _ _ _ c.loop-change.change-index c.stage.ensures.staged c.stage.ensures.refused so_far.many so_far.bytes (small_as _ _ _ c.range-range.ensures.range c.bytes.ensures) (let few = c.requires.few in let low = c.loop-change-test.true in omega (arith, few, low)))
