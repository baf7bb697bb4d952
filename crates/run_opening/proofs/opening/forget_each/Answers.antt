use Rattle.std.specs.Prelude.{Err, Ok, length}
use Rattle.std.proofs.Common.{rules, ◌≡◌, ◌<◌, ◌≤◌, arith, subst, sym}
use Rattle.run_opening.specs.All.{GoesAll, alike}
use Rattle.run_opening.specs.Steps.{forgotten}
use Rattle.run_opening.proofs.Walks.{committed-next, still-run, upto, walk-err, walk-first, walk-last, walk-on}
use Rattle.run_opening.specs.Left.{first_forgotten}
use Rattle.run_opening.proofs.Leaving.{all-leave, none-forgotten, walk-leaves, whole-forgotten}
use Rattle.run_opening.proofs.opening.forget_each.Goals as goal

pub loop-t-init : goal.loop-t-init
loop-t-init g c = walk-first g.S.Store.durable g.S.Store.state forgotten (tt {0}) c.args.stores.now c.requires.running

pub forget_at-requires-clause-running : goal.forget_at-requires-clause-running
forget_at-requires-clause-running g c = still-run g.S.Store.durable g.S.Store.state (upto c.loop-t.t forgotten) (tt {0}) c.args.stores.now c.loop-t.stores c.loop-t.invariant

pub forget_at-requires-clause-committed : goal.forget_at-requires-clause-committed
forget_at-requires-clause-committed g c = committed-next g.S.Store.durable g.S.Store.state forgotten c.loop-t.t (tt {0}) c.args.stores.now c.loop-t.stores c.loop-t.invariant c.requires.committed

pub returns-in_err-forget_at-clause-goes : goal.returns-in_err-forget_at-clause-goes
returns-in_err-forget_at-clause-goes g c =
    let is : c.from_residual.result ≡ Err c.in_err-forget_at.field-0.0 = search rules in
    let many = c.loop-t.invariant.many in
    let low = c.loop-t-test.true in
    let within : c.loop-t.t < length c.loop-t.stores = omega (arith, many, low) in
    subst (λ r. GoesAll g.S.Store.durable g.S.Store.state (alike forgotten) r c.args.stores.now c.forget_at.new.stores) (sym is)
    (walk-err g.S.Store.durable g.S.Store.state forgotten c.loop-t.t (tt {0}) c.in_err-forget_at.field-0.0 c.args.stores.now c.loop-t.stores c.forget_at.new.stores within c.loop-t.invariant c.in_err-forget_at.ensures.goes)

pub loop-t-preserved : goal.loop-t-preserved
loop-t-preserved g c =
    let many = c.loop-t.invariant.many in
    let low = c.loop-t-test.true in
    let within : c.loop-t.t < length c.loop-t.stores = omega (arith, many, low) in
    walk-on g.S.Store.durable g.S.Store.state forgotten c.loop-t.t (tt {0}) (Ok (tt {0})) c.args.stores.now c.loop-t.stores c.forget_at.new.stores within c.loop-t.invariant c.in_ok-forget_at.ensures.goes

pub returns-clause-goes : goal.returns-clause-goes
returns-clause-goes g c =
    let over = c.loop-t-test.false in
    let past : length c.args.stores.now ≤ c.loop-t.t = omega (arith, over) in
    walk-last g.S.Store.durable g.S.Store.state forgotten c.loop-t.t (tt {0}) (tt {0}) c.args.stores.now c.loop-t.stores past c.loop-t.invariant

pub returns-in_err-forget_at-clause-left : goal.returns-in_err-forget_at-clause-left
returns-in_err-forget_at-clause-left g c =
    walk-leaves g.S.Store.durable g.S.Store.state g.S.Store.may g.met.S.Store.steady forgotten first_forgotten c.loop-t.t (tt {0}) _ c.args.stores.now c.loop-t.stores c.forget_at.new.stores
    (λ d. none-forgotten d) (λ d. (length d.entries, whole-forgotten d)) c.loop-t.invariant c.in_err-forget_at.ensures.goes c.in_err-forget_at.ensures.left

pub returns-clause-left : goal.returns-clause-left
returns-clause-left g c =
    let over = c.loop-t-test.false in
    let past : length c.args.stores.now ≤ c.loop-t.t = omega (arith, over) in
    all-leave g.S.Store.durable g.S.Store.state g.S.Store.may g.met.S.Store.steady (alike forgotten) (λ t. first_forgotten) (tt {0}) c.args.stores.now c.loop-t.stores
    (walk-last g.S.Store.durable g.S.Store.state forgotten c.loop-t.t (tt {0}) (tt {0}) c.args.stores.now c.loop-t.stores past c.loop-t.invariant) (λ t d. (length d.entries, whole-forgotten d))
