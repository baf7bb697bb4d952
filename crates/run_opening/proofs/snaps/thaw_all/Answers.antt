use Rattle.std.specs.Prelude.{Ok, take}
use Rattle.std.proofs.Common.{arith, refl}
use Rattle.vos_store.specs.Refusals.{always_stop}
use Rattle.run_opening.specs.Steps.{all_thawed}
use Rattle.run_opening.proofs.Going.{goes-as, goes-first, goes-on, was}
use Rattle.run_opening.proofs.Thawing.{last-thawed, more-thawed, read-frozen}
use Rattle.run_opening.specs.Left.{first_thawed}
use Rattle.run_opening.proofs.Leaving.{leaves-made, leaves-on, next-thawed}
use Rattle.run_opening.proofs.snaps.thaw_all.Goals as goal

pub loop-snap-init : goal.loop-snap-init
loop-snap-init g c = goes-first always_stop (tt {0}) (g.S.Store.state c.args.store.now) (g.S.Store.durable c.args.store.now) c.requires.running

pub thaw_one-requires-clause-frozen : goal.thaw_one-requires-clause-frozen
thaw_one-requires-clause-frozen g c x at =
    let w = was (all_thawed (take c.loop-snap.snap-index c.args.gone.now)) (g.S.Store.durable c.args.store.now) (g.S.Store.durable c.loop-snap.store) x c.loop-snap.invariant.made at in
    read-frozen c.args.gone.now c.loop-snap.snap-index _ c.loop-snap-test.true w.0 x (c.requires.frozen w.0 w.1) w.2

pub loop-snap-preserved : goal.loop-snap-preserved
loop-snap-preserved g c =
    goes-as always_stop (Ok (tt {0})) _ (all_thawed (take _ c.args.gone.now)) (g.S.Store.state c.args.store.now) (g.S.Store.state c.thaw_one.new.store) (g.S.Store.durable c.args.store.now) (g.S.Store.durable c.thaw_one.new.store)
    (λ d at. more-thawed c.args.gone.now c.loop-snap.snap-index _ c.loop-snap-test.true d)
    (goes-on always_stop (tt {0}) (all_thawed (take c.loop-snap.snap-index c.args.gone.now)) always_stop (Ok (tt {0})) _ (g.S.Store.state c.args.store.now) (g.S.Store.state c.loop-snap.store) (g.S.Store.state c.thaw_one.new.store) (g.S.Store.durable c.args.store.now) (g.S.Store.durable c.loop-snap.store) (g.S.Store.durable c.thaw_one.new.store)
    c.loop-snap.invariant c.in_ok-thaw_one.ensures.goes)

pub returns-clause-goes : goal.returns-clause-goes
returns-clause-goes g c =
    let over = c.loop-snap-test.false in
    goes-as always_stop (Ok (tt {0})) (all_thawed (take c.loop-snap.snap-index c.args.gone.now)) (all_thawed c.args.gone.now) (g.S.Store.state c.args.store.now) (g.S.Store.state c.loop-snap.store) (g.S.Store.durable c.args.store.now) (g.S.Store.durable c.loop-snap.store)
    (λ d at. last-thawed c.args.gone.now c.loop-snap.snap-index d (omega (arith, over))) c.loop-snap.invariant

pub returns-in_err-thaw_one-clause-left : goal.returns-in_err-thaw_one-clause-left
returns-in_err-thaw_one-clause-left g c =
    leaves-on g.S.Store.durable g.S.Store.state g.S.Store.may g.met.S.Store.steady (all_thawed (take c.loop-snap.snap-index c.args.gone.now)) _ (first_thawed c.args.gone.now) c.args.store.now c.loop-snap.store c.thaw_one.new.store c.loop-snap.invariant.made
    (λ d n told. next-thawed c.args.gone.now c.loop-snap.snap-index _ c.loop-snap-test.true d n) c.in_err-thaw_one.ensures.left

pub returns-clause-left : goal.returns-clause-left
returns-clause-left g c =
    leaves-made g.S.Store.durable g.S.Store.state g.S.Store.may g.met.S.Store.steady (all_thawed (take c.loop-snap.snap-index c.args.gone.now)) (first_thawed c.args.gone.now) c.args.store.now c.loop-snap.store c.loop-snap.invariant.runs.stops c.loop-snap.invariant.made
    (λ d told. (c.loop-snap.snap-index, refl))
