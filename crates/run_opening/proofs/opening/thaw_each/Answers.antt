use Rattle.std.specs.Prelude.{Err, Ok, filter, length}
use Rattle.std.proofs.Common.{rules, ◌≡◌, ◌<◌, ◌≤◌, arith, subst, sym}
use Rattle.run_opening.specs.All.{GoesAll, alike}
use Rattle.run_opening.specs.Steps.{is_other_than, left_with}
use Rattle.run_opening.proofs.Walks.{still-run, upto, walk-err, walk-first, walk-last, walk-on}
use Rattle.run_opening.specs.Left.{first_left_with}
use Rattle.run_opening.proofs.Leaving.{all-leave, none-thawed, walk-leaves, whole-thawed}
use Rattle.run_opening.proofs.opening.thaw_each.Goals as goal

pub loop-t-init : goal.loop-t-init
loop-t-init g c = walk-first g.S.Store.durable g.S.Store.state (left_with c.args.some.now) (tt {0}) c.args.stores.now c.requires.running

pub thaw_at-requires-clause-running : goal.thaw_at-requires-clause-running
thaw_at-requires-clause-running g c = still-run g.S.Store.durable g.S.Store.state (upto c.loop-t.t (left_with c.args.some.now)) (tt {0}) c.args.stores.now c.loop-t.stores c.loop-t.invariant

pub returns-in_err-thaw_at-clause-goes : goal.returns-in_err-thaw_at-clause-goes
returns-in_err-thaw_at-clause-goes g c =
    let is : c.from_residual.result ≡ Err c.in_err-thaw_at.field-0.0 = search rules in
    let many = c.loop-t.invariant.many in
    let low = c.loop-t-test.true in
    let within : c.loop-t.t < length c.loop-t.stores = omega (arith, many, low) in
    subst (λ r. GoesAll g.S.Store.durable g.S.Store.state (alike (left_with c.args.some.now)) r c.args.stores.now c.thaw_at.new.stores) (sym is)
    (walk-err g.S.Store.durable g.S.Store.state (left_with c.args.some.now) c.loop-t.t (tt {0}) c.in_err-thaw_at.field-0.0 c.args.stores.now c.loop-t.stores c.thaw_at.new.stores within c.loop-t.invariant c.in_err-thaw_at.ensures.goes)

pub loop-t-preserved : goal.loop-t-preserved
loop-t-preserved g c =
    let many = c.loop-t.invariant.many in
    let low = c.loop-t-test.true in
    let within : c.loop-t.t < length c.loop-t.stores = omega (arith, many, low) in
    walk-on g.S.Store.durable g.S.Store.state (left_with c.args.some.now) c.loop-t.t (tt {0}) (Ok (tt {0})) c.args.stores.now c.loop-t.stores c.thaw_at.new.stores within c.loop-t.invariant c.in_ok-thaw_at.ensures.goes

pub returns-clause-goes : goal.returns-clause-goes
returns-clause-goes g c =
    let over = c.loop-t-test.false in
    let past : length c.args.stores.now ≤ c.loop-t.t = omega (arith, over) in
    walk-last g.S.Store.durable g.S.Store.state (left_with c.args.some.now) c.loop-t.t (tt {0}) (tt {0}) c.args.stores.now c.loop-t.stores past c.loop-t.invariant

pub returns-in_err-thaw_at-clause-left : goal.returns-in_err-thaw_at-clause-left
returns-in_err-thaw_at-clause-left g c =
    walk-leaves g.S.Store.durable g.S.Store.state g.S.Store.may g.met.S.Store.steady (left_with c.args.some.now) (first_left_with c.args.some.now) c.loop-t.t (tt {0}) _ c.args.stores.now c.loop-t.stores c.thaw_at.new.stores
    (λ d. none-thawed (filter (is_other_than c.args.some.now) d.snaps) d) (λ d. (length (filter (is_other_than c.args.some.now) d.snaps), whole-thawed (filter (is_other_than c.args.some.now) d.snaps) d)) c.loop-t.invariant c.in_err-thaw_at.ensures.goes c.in_err-thaw_at.ensures.left

pub returns-clause-left : goal.returns-clause-left
returns-clause-left g c =
    let over = c.loop-t-test.false in
    let past : length c.args.stores.now ≤ c.loop-t.t = omega (arith, over) in
    all-leave g.S.Store.durable g.S.Store.state g.S.Store.may g.met.S.Store.steady (alike (left_with c.args.some.now)) (λ t. (first_left_with c.args.some.now)) (tt {0}) c.args.stores.now c.loop-t.stores
    (walk-last g.S.Store.durable g.S.Store.state (left_with c.args.some.now) c.loop-t.t (tt {0}) (tt {0}) c.args.stores.now c.loop-t.stores past c.loop-t.invariant) (λ t d. (length (filter (is_other_than c.args.some.now) d.snaps), whole-thawed (filter (is_other_than c.args.some.now) d.snaps) d))
