use Rattle.std.specs.Prelude.{Err, Ok, length}
use Rattle.std.proofs.Common.{rules, ◌≡◌, ◌<◌, ◌≤◌, ◌∙◌, arith, subst, sym}
use Rattle.run_opening.specs.All.{GoesAll, alike}
use Rattle.run_opening.specs.Steps.{ended, resolved_by}
use Rattle.run_opening.proofs.Walks.{own-next, still-run, upto, walk-err, walk-first, walk-last, walk-on}
use Rattle.run_opening.specs.Left.{first_ended}
use Rattle.run_opening.proofs.Leaving.{all-leave, none-ended, walk-leaves, whole-ended}
use Rattle.run_opening.proofs.opening.settle_each.Goals as goal

pub loop-t-init : goal.loop-t-init
loop-t-init g c = walk-first g.S.Store.durable g.S.Store.state (ended (resolved_by c.args.all.now)) (tt {0}) c.args.stores.now c.requires.running

pub settle_at-requires-clause-running : goal.settle_at-requires-clause-running
settle_at-requires-clause-running g c = still-run g.S.Store.durable g.S.Store.state (upto c.loop-t.t (ended (resolved_by c.args.all.now))) (tt {0}) c.args.stores.now c.loop-t.stores c.loop-t.invariant

pub settle_at-requires-clause-many : goal.settle_at-requires-clause-many
settle_at-requires-clause-many g c = c.requires.entries.many ∙ sym c.loop-t.invariant.many

pub settle_at-requires-clause-entries : goal.settle_at-requires-clause-entries
settle_at-requires-clause-entries g c = own-next g.S.Store.durable g.S.Store.state (ended (resolved_by c.args.all.now)) c.loop-t.t (tt {0}) c.args.all.now c.args.stores.now c.loop-t.stores c.loop-t.invariant c.requires.entries

pub returns-in_err-settle_at-clause-goes : goal.returns-in_err-settle_at-clause-goes
returns-in_err-settle_at-clause-goes g c =
    let is : c.from_residual.result ≡ Err c.in_err-settle_at.field-0.0 = search rules in
    let many = c.loop-t.invariant.many in
    let low = c.loop-t-test.true in
    let within : c.loop-t.t < length c.loop-t.stores = omega (arith, many, low) in
    subst (λ r. GoesAll g.S.Store.durable g.S.Store.state (alike (ended (resolved_by c.args.all.now))) r c.args.stores.now c.settle_at.new.stores) (sym is)
    (walk-err g.S.Store.durable g.S.Store.state (ended (resolved_by c.args.all.now)) c.loop-t.t (tt {0}) c.in_err-settle_at.field-0.0 c.args.stores.now c.loop-t.stores c.settle_at.new.stores within c.loop-t.invariant c.in_err-settle_at.ensures.goes)

pub loop-t-preserved : goal.loop-t-preserved
loop-t-preserved g c =
    let many = c.loop-t.invariant.many in
    let low = c.loop-t-test.true in
    let within : c.loop-t.t < length c.loop-t.stores = omega (arith, many, low) in
    walk-on g.S.Store.durable g.S.Store.state (ended (resolved_by c.args.all.now)) c.loop-t.t (tt {0}) (Ok (tt {0})) c.args.stores.now c.loop-t.stores c.settle_at.new.stores within c.loop-t.invariant c.in_ok-settle_at.ensures.goes

pub returns-clause-goes : goal.returns-clause-goes
returns-clause-goes g c =
    let over = c.loop-t-test.false in
    let past : length c.args.stores.now ≤ c.loop-t.t = omega (arith, over) in
    walk-last g.S.Store.durable g.S.Store.state (ended (resolved_by c.args.all.now)) c.loop-t.t (tt {0}) (tt {0}) c.args.stores.now c.loop-t.stores past c.loop-t.invariant

pub returns-in_err-settle_at-clause-left : goal.returns-in_err-settle_at-clause-left
returns-in_err-settle_at-clause-left g c =
    walk-leaves g.S.Store.durable g.S.Store.state g.S.Store.may g.met.S.Store.steady (ended (resolved_by c.args.all.now)) (first_ended (resolved_by c.args.all.now)) c.loop-t.t (tt {0}) _ c.args.stores.now c.loop-t.stores c.settle_at.new.stores
    (λ d. none-ended (resolved_by c.args.all.now) d) (λ d. (length d.entries, whole-ended (resolved_by c.args.all.now) d)) c.loop-t.invariant c.in_err-settle_at.ensures.goes c.in_err-settle_at.ensures.left

pub returns-clause-left : goal.returns-clause-left
returns-clause-left g c =
    let over = c.loop-t-test.false in
    let past : length c.args.stores.now ≤ c.loop-t.t = omega (arith, over) in
    all-leave g.S.Store.durable g.S.Store.state g.S.Store.may g.met.S.Store.steady (alike (ended (resolved_by c.args.all.now))) (λ t. (first_ended (resolved_by c.args.all.now))) (tt {0}) c.args.stores.now c.loop-t.stores
    (walk-last g.S.Store.durable g.S.Store.state (ended (resolved_by c.args.all.now)) c.loop-t.t (tt {0}) (tt {0}) c.args.stores.now c.loop-t.stores past c.loop-t.invariant) (λ t d. (length d.entries, whole-ended (resolved_by c.args.all.now) d))
