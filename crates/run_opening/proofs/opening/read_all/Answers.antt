use Rattle.std.specs.Prelude.{[], ◌∷◌, ◌++◌, Err, length}
use Rattle.std.proofs.Common.{rules, ◌≡◌, ◌<◌, ◌+◌, arith, refl, subst, sym}
use Rattle.run_opening.specs.All.{GoesAll, alike, wanting}
use Rattle.run_opening.specs.Steps.{same}
use Rattle.run_opening.proofs.Walks.{ReadSoFar, all-read, all-so, none-read, one-read, read-err, still-run, unread}
use Rattle.run_opening.specs.Left.{nothing}
use Rattle.run_opening.proofs.Leaving.{all-leave, read-leaves}
use Rattle.run_opening.proofs.opening.read_all.Goals as goal

pub loop-t-init : goal.loop-t-init
loop-t-init g c =
    let is : c.new-all.result.items ≡ [] = search rules in
    subst (λ l. ReadSoFar g.S.Store.durable g.S.Store.state 0 l c.args.stores.now c.args.stores.now) (sym is) (none-read g.S.Store.durable g.S.Store.state c.args.stores.now c.requires.running)

pub read_at-requires-clause-running : goal.read_at-requires-clause-running
read_at-requires-clause-running g c = still-run g.S.Store.durable g.S.Store.state (alike same) (tt {0}) c.args.stores.now c.loop-t.stores c.loop-t.invariant.goes

pub returns-in_err-entries-clause-goes : goal.returns-in_err-entries-clause-goes
returns-in_err-entries-clause-goes g c =
    let is : c.from_residual.result ≡ Err c.in_err-entries.field-0.0 = search rules in
    let many = c.loop-t.invariant.goes.many in
    let low = c.loop-t-test.true in
    let within : c.loop-t.t < length c.loop-t.stores = omega (arith, many, low) in
    subst (λ r. GoesAll g.S.Store.durable g.S.Store.state (alike same) r c.args.stores.now c.read_at.new.stores) (sym is)
    (read-err g.S.Store.durable g.S.Store.state c.loop-t.t c.in_err-entries.field-0.0 c.loop-t.all.items c.args.stores.now c.loop-t.stores c.read_at.new.stores within c.loop-t.invariant c.in_err-entries.ensures.goes)

pub returns-in_err-push-clause-goes : goal.returns-in_err-push-clause-goes
returns-in_err-push-clause-goes g c =
    let is : c.from_residual-in_err-push.result ≡ Err wanting = search rules in
    let many = c.loop-t.invariant.goes.many in
    let low = c.loop-t-test.true in
    let within : c.loop-t.t < length c.loop-t.stores = omega (arith, many, low) in
    subst (λ r. GoesAll g.S.Store.durable g.S.Store.state (alike same) r c.args.stores.now c.read_at.new.stores) (sym is)
    (unread g.S.Store.durable g.S.Store.state c.loop-t.t c.in_ok-entries.entries wanting c.loop-t.all.items c.args.stores.now c.loop-t.stores c.read_at.new.stores within c.loop-t.invariant c.in_ok-entries.ensures.goes refl)

pub loop-t-preserved : goal.loop-t-preserved
loop-t-preserved g c =
    let is : c.push.new.self.items ≡ c.loop-t.all.items ++ c.in_ok-entries.entries ∷ [] = search rules in
    let many = c.loop-t.invariant.goes.many in
    let low = c.loop-t-test.true in
    let within : c.loop-t.t < length c.loop-t.stores = omega (arith, many, low) in
    subst (λ l. ReadSoFar g.S.Store.durable g.S.Store.state (c.loop-t.t + 1) l c.args.stores.now c.read_at.new.stores) (sym is)
    (one-read g.S.Store.durable g.S.Store.state c.loop-t.t c.in_ok-entries.entries c.loop-t.all.items c.args.stores.now c.loop-t.stores c.read_at.new.stores within c.loop-t.invariant c.in_ok-entries.ensures.goes c.in_ok-entries.ensures.own)

pub returns-clause-goes : goal.returns-clause-goes
returns-clause-goes g c = all-so g.S.Store.durable g.S.Store.state (alike same) (tt {0}) c.loop-t.all c.args.stores.now c.loop-t.stores c.loop-t.invariant.goes

pub returns-clause-entries : goal.returns-clause-entries
returns-clause-entries g c =
    let over = c.loop-t-test.false in
    let at-most = c.loop-t.auto.t-end in
    let done : c.loop-t.t ≡ length c.args.stores.now = omega (arith, over, at-most) in
    all-read g.S.Store.durable g.S.Store.state c.loop-t.t c.loop-t.all.items c.args.stores.now c.loop-t.stores done c.loop-t.invariant

pub returns-in_err-entries-clause-left : goal.returns-in_err-entries-clause-left
returns-in_err-entries-clause-left g c =
    read-leaves g.S.Store.durable g.S.Store.state g.S.Store.may g.met.S.Store.steady c.loop-t.t (tt {0}) _ c.args.stores.now c.loop-t.stores c.read_at.new.stores c.loop-t.invariant.goes c.in_err-entries.ensures.goes c.in_err-entries.ensures.left

pub returns-in_err-push-clause-left : goal.returns-in_err-push-clause-left
returns-in_err-push-clause-left g c =
    read-leaves g.S.Store.durable g.S.Store.state g.S.Store.may g.met.S.Store.steady c.loop-t.t (tt {0}) _ c.args.stores.now c.loop-t.stores c.read_at.new.stores c.loop-t.invariant.goes c.in_ok-entries.ensures.goes c.in_ok-entries.ensures.left

pub returns-clause-left : goal.returns-clause-left
returns-clause-left g c = all-leave g.S.Store.durable g.S.Store.state g.S.Store.may g.met.S.Store.steady (alike same) (λ t. nothing) (tt {0}) c.args.stores.now c.loop-t.stores c.loop-t.invariant.goes (λ t d. (0, refl))
