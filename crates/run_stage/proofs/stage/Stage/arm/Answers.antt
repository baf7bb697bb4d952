use Rattle.std.specs.Prelude.{◌≡◌, slice_get, slice_set, Some}
use Rattle.std.proofs.Common.{ap, subst, sym}
use Rattle.model_laws.specs.Lists.{at-index}
use Rattle.run_laws.specs.shows.Openings.{HasFuse}
use Rattle.run_laws.specs.shows.Serving.{served-by-fuse, served-one}
use Rattle.run_watch.specs.Watches.{next_fuse}
use Rattle.run_stage.specs.Now.{stage_now}
use Rattle.run_stage.proofs.Opening.{armed-so, same-there}
use Rattle.run_laws.specs.target_parts.Readings.{IsReadOn, not-read_on}
use Rattle.vos_store.specs.Calls.{SetsFuse}
use Rattle.run_stage.proofs.stage.Stage.arm.Goals as goal

-- the target that is there
there : (g : _) (c : goal.After-self-1 g) → slice_get c.args.self.now.targets.items c.args.t ≡ Some c.index_mut.result.now
there g c = at-index c.args.self.now.targets.items c.args.t c.index_mut.result.now c.requires.there c.index_mut.ensures.value

-- a fuse was set of it
fused : (g : _) (c : goal.After-self-1 g) → HasFuse g.S.Store.durable g.S.Store.state g.S.Store.may (next_fuse c.args.t c.args.self.now.watch.stops) c.index_mut.result.now c.fuse.new.self
fused g c = record {
  plan = c.fuse.ensures.plan;
  clock = c.fuse.ensures.clock;
  memory = c.fuse.ensures.memory;
  opened = c.fuse.ensures.opened;
  state_is = subst (λ k. SetsFuse k (g.S.Store.state c.index_mut.result.now.store) (g.S.Store.state c.fuse.new.self.store)) c.take_fuse-k.ensures.write c.fuse.ensures.state;
  kept = c.fuse.ensures.durable;
  left = c.fuse.ensures.left;
}

pub returns-clause-armed : goal.returns-clause-armed
returns-clause-armed g c x at =
    let now = c.args.self.now in
    armed-so g.S.Store.durable g.S.Store.state g.S.Store.may c.args.t x (stage_now now) _ c.index_mut.result.now c.fuse.new.self (same-there now.targets.items c.args.t c.index_mut.result.now x (there g c) at) (fused g c)
    (ap (λ w. record (stage_now now) { targets = slice_set now.targets.items c.args.t c.fuse.new.self; watch = w }) c.take_fuse-k.ensures.left)

pub returns-clause-served : goal.returns-clause-served
returns-clause-served g c =
    let x = c.index_mut.result.now in
    let y = c.fuse.new.self in
    served-one g.S.Store.durable g.S.Store.state g.C.Clock.is_read c.args.self.now.targets.items c.args.t x y (there g c)
    (served-by-fuse g.S.Store.durable g.S.Store.state g.S.Store.may (next_fuse c.args.t c.args.self.now.watch.stops) x y (fused g c)) (subst (IsReadOn g.C.Clock.is_read x.clock) (sym c.fuse.ensures.clock) (not-read_on g.C.Clock.is_read x.clock))
