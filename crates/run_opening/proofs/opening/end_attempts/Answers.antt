use Rattle.std.specs.Prelude.{Err, Ok}
use Rattle.std.proofs.Common.{rules, ◌≡◌, inl, inr, refl, subst, sym}
use Rattle.run_opening.specs.All.{AreEntries, EndsAll, alike}
use Rattle.run_opening.specs.Steps.{ended, resolved_by, same}
use Rattle.run_opening.proofs.Walks.{all-on, committed-ended, entries-stay, still-run}
use Rattle.run_opening.proofs.Whole.{ends-all, ends-err, settles-err}
use Rattle.run_opening.specs.Left.{first_ended, first_forgotten}
use Rattle.run_opening.proofs.Leaving.{all-leave_on}
use Rattle.run_opening.proofs.opening.end_attempts.Goals as goal

pub returns-in_err-all-clause-goes : goal.returns-in_err-all-clause-goes
returns-in_err-all-clause-goes g c =
    let is : c.from_residual.result ≡ Err c.in_err-all.field-0.0 = search rules in
    subst (λ r. EndsAll g.S.Store.durable g.S.Store.state r c.args.stores.now c.read_all.new.stores) (sym is) (ends-err g.S.Store.durable g.S.Store.state (alike same) c.in_err-all.field-0.0 c.args.stores.now c.read_all.new.stores c.in_err-all.ensures.goes)

pub settle_each-requires-clause-running : goal.settle_each-requires-clause-running
settle_each-requires-clause-running g c = still-run g.S.Store.durable g.S.Store.state (alike same) c.in_ok-all.all c.args.stores.now c.read_all.new.stores c.in_ok-all.ensures.goes

pub settle_each-requires-clause-entries : goal.settle_each-requires-clause-entries
settle_each-requires-clause-entries g c =
    entries-stay g.S.Store.durable g.S.Store.state c.in_ok-all.all c.as_slice.result.now c.args.stores.now c.read_all.new.stores c.in_ok-all.ensures.goes
    (subst (AreEntries g.S.Store.durable c.args.stores.now) (sym c.as_slice.ensures.value) c.in_ok-all.ensures.entries)

pub returns-in_err-settle_each-clause-goes : goal.returns-in_err-settle_each-clause-goes
returns-in_err-settle_each-clause-goes g c =
    let is : c.from_residual-in_err-settle_each.result ≡ Err c.in_err-settle_each.field-0.0 = search rules in
    subst (λ r. EndsAll g.S.Store.durable g.S.Store.state r c.args.stores.now c.settle_each.new.stores) (sym is)
    (settles-err g.S.Store.durable g.S.Store.state c.as_slice.result.now c.in_ok-all.all c.in_err-settle_each.field-0.0 c.args.stores.now c.read_all.new.stores c.settle_each.new.stores c.in_ok-all.ensures.goes c.in_err-settle_each.ensures.goes)

pub forget_each-requires-clause-running : goal.forget_each-requires-clause-running
forget_each-requires-clause-running g c = still-run g.S.Store.durable g.S.Store.state (alike (ended (resolved_by c.as_slice.result.now))) (tt {0}) c.read_all.new.stores c.settle_each.new.stores c.in_ok-settle_each.ensures.goes

pub forget_each-requires-clause-committed : goal.forget_each-requires-clause-committed
forget_each-requires-clause-committed g c = committed-ended g.S.Store.durable g.S.Store.state (resolved_by c.as_slice.result.now) (tt {0}) c.read_all.new.stores c.settle_each.new.stores c.in_ok-settle_each.ensures.goes

pub returns-clause-goes : goal.returns-clause-goes
returns-clause-goes g c =
    ends-all g.S.Store.durable g.S.Store.state c.as_slice.result.now c.in_ok-all.all (tt {0}) c.forget_each.result c.args.stores.now c.read_all.new.stores c.settle_each.new.stores c.forget_each.new.stores c.in_ok-all.ensures.goes
    (subst (AreEntries g.S.Store.durable c.args.stores.now) (sym c.as_slice.ensures.value) c.in_ok-all.ensures.entries) c.in_ok-settle_each.ensures.goes c.forget_each.ensures.goes

pub returns-in_err-all-clause-left : goal.returns-in_err-all-clause-left
returns-in_err-all-clause-left g c = inl c.in_err-all.ensures.left

pub returns-in_err-settle_each-clause-left : goal.returns-in_err-settle_each-clause-left
returns-in_err-settle_each-clause-left g c =
    let r = resolved_by c.as_slice.result.now in
    inr (record {
      all = c.as_slice.result.now;
      entries = subst (AreEntries g.S.Store.durable c.args.stores.now) (sym c.as_slice.ensures.value) c.in_ok-all.ensures.entries;
      left = inl (all-leave_on g.S.Store.durable g.S.Store.state g.S.Store.may g.met.S.Store.steady (alike same) (λ t. first_ended r) (λ t. first_ended r) c.in_ok-all.all c.args.stores.now c.read_all.new.stores c.settle_each.new.stores c.in_ok-all.ensures.goes (λ t n d. (n, refl)) c.in_err-settle_each.ensures.left);
    })

pub returns-clause-left : goal.returns-clause-left
returns-clause-left g c =
    let r = resolved_by c.as_slice.result.now in
    inr (record {
      all = c.as_slice.result.now;
      entries = subst (AreEntries g.S.Store.durable c.args.stores.now) (sym c.as_slice.ensures.value) c.in_ok-all.ensures.entries;
      left = inr (all-leave_on g.S.Store.durable g.S.Store.state g.S.Store.may g.met.S.Store.steady (alike (ended r)) (λ t. first_forgotten) (λ t n d. first_forgotten n (ended r d)) (tt {0}) c.args.stores.now c.settle_each.new.stores c.forget_each.new.stores
          (all-on g.S.Store.durable g.S.Store.state (alike same) (alike (ended r)) c.in_ok-all.all (Ok (tt {0})) c.args.stores.now c.read_all.new.stores c.settle_each.new.stores c.in_ok-all.ensures.goes c.in_ok-settle_each.ensures.goes) (λ t n d. (n, refl)) c.forget_each.ensures.left);
    })
