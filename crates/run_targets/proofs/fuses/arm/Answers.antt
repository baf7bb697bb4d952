use Rattle.std.specs.Prelude.{◌<◌}
use Rattle.std.proofs.Common.{get_or, subst, sym}
use Rattle.model_laws.specs.Lists.{at-index}
use Rattle.run_loop.specs.Below.{HasFuse}
use Rattle.run_targets.proofs.Setting.{all-armed, armed-there}
use Rattle.run_targets.proofs.fuses.arm.Goals as goal

pub loop-t-preserved : goal.loop-t-preserved
loop-t-preserved g c =
    let t = c.loop-t.t in
    let ys = c.loop-t.targets in
    let y = c.index-targets-t.result in
    let e = c.fuse.ensures in
    let at = at-index ys t y (subst (λ n. t < n) (sym c.loop-t.invariant.set.many) c.loop-t-test.true) c.index-targets-t.is in
    let fuse : HasFuse g.S.Store.durable g.S.Store.state g.S.Store.may c.take_fuse.result (get_or ys t y) c.fuse.new.self = record { plan = e.plan; clock = e.clock; memory = e.memory; opened = e.opened; state_is = e.state; kept = e.durable; left = e.left } in
    armed-there g.S.Store.durable g.S.Store.state g.S.Store.may t c.args.targets.now ys y c.fuse.new.self at c.take_fuse.result c.args.watch.now c.loop-t.watch c.take_fuse.new.self c.take_fuse.ensures.write c.take_fuse.ensures.left
    (subst (λ x. HasFuse g.S.Store.durable g.S.Store.state g.S.Store.may c.take_fuse.result x c.fuse.new.self) (sym c.index-targets-t.is) fuse) c.loop-t.invariant

pub returns : goal.returns
returns g c = all-armed g.S.Store.durable g.S.Store.state g.S.Store.may c.loop-t.t c.args.targets.now c.loop-t.targets c.args.watch.now c.loop-t.watch c.loop-t-test.false c.loop-t.invariant
