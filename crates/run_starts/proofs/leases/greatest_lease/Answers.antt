use Rattle.std.specs.Prelude.{◌≤◌, ◌+◌, length}
use Rattle.std.proofs.Common.{arith, subst, sym}
use Rattle.model_laws.specs.Lists.{at-index}
use Rattle.run_starts.proofs.Greatest.{IsGreatestSoFar, all-covered, is-greatest, none-seen, one-seen}
use Rattle.run_starts.proofs.leases.greatest_lease.Goals as goal

pub loop-t-init : goal.loop-t-init
loop-t-init g c = none-seen g.S.Store.durable g.S.Store.state c.args.stores.now

pub returns-clause-covers : goal.returns-clause-covers
returns-clause-covers g c =
    let over = c.loop-t-test.false in
    let past : length c.args.stores.now ≤ c.loop-t.t = omega (arith, over) in
    all-covered g.S.Store.durable g.S.Store.state c.args.stores.now c.loop-t.t c.loop-t.greatest c.loop-t.invariant past

pub returns-clause-lease : goal.returns-clause-lease
returns-clause-lease g c =
    let over = c.loop-t-test.false in
    let past : length c.args.stores.now ≤ c.loop-t.t = omega (arith, over) in
    is-greatest g.S.Store.durable g.S.Store.state c.args.stores.now c.loop-t.t c.loop-t.greatest c.loop-t.invariant past

pub loop-t-preserved : goal.loop-t-preserved
loop-t-preserved g c =
    let x = c.index-stores-t.result in
    let at = at-index c.args.stores.now c.loop-t.t x c.loop-t-test.true c.index-stores-t.is in
    let running = c.requires.running c.loop-t.t x at in
    subst (IsGreatestSoFar g.S.Store.durable g.S.Store.state c.args.stores.now (c.loop-t.t + 1)) (sym c.max-greatest.ensures)
    (one-seen g.S.Store.durable g.S.Store.state c.args.stores.now c.loop-t.t c.loop-t.greatest c.lease.result x c.loop-t.invariant at (c.lease.ensures.lease running) (c.lease.ensures.covers running))
