use Rattle.std.specs.Prelude.{◌<◌}
use Rattle.std.proofs.Common.{get_or, subst, sym}
use Rattle.model_laws.specs.Lists.{at-index}
use Rattle.run_loop.specs.Below.{HasFuse}
use Rattle.run_targets.proofs.Setting.{all-unfused, unfused-there}
use Rattle.run_targets.proofs.fuses.disarm.Goals as goal

pub loop-t-preserved : goal.loop-t-preserved
loop-t-preserved g c =
    let t = c.loop-t.t in
    let ys = c.loop-t.targets in
    let y = c.index-targets-t.result in
    let e = c.fuse.ensures in
    let at = at-index ys t y (subst (λ n. t < n) (sym c.loop-t.invariant.many) c.loop-t-test.true) c.index-targets-t.is in
    let fuse : HasFuse g.S.Store.durable g.S.Store.state g.S.Store.may 0 (get_or ys t y) c.fuse.new.self = record { plan = e.plan; clock = e.clock; memory = e.memory; opened = e.opened; state_is = e.state; kept = e.durable; left = e.left } in
    unfused-there g.S.Store.durable g.S.Store.state g.S.Store.may t c.args.targets.now ys y c.fuse.new.self at
    (subst (λ x. HasFuse g.S.Store.durable g.S.Store.state g.S.Store.may 0 x c.fuse.new.self) (sym c.index-targets-t.is) fuse) c.loop-t.invariant

pub returns : goal.returns
returns g c = all-unfused g.S.Store.durable g.S.Store.state g.S.Store.may c.loop-t.t c.args.targets.now c.loop-t.targets c.loop-t-test.false c.loop-t.invariant
