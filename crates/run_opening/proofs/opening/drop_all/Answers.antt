use Rattle.std.specs.Prelude.{Err}
use Rattle.std.proofs.Common.{rules, ◌≡◌, ◌∙◌, inl, inr, refl, subst, sym}
use Rattle.run_opening.specs.All.{DropsAll, only, wanting}
use Rattle.run_opening.specs.Steps.{dropped}
use Rattle.run_opening.proofs.Walks.{still-run}
use Rattle.run_opening.proofs.Whole.{drops-all, first-all, first-err, first-held, first-runs, first-wanting}
use Rattle.run_opening.specs.Left.{first_dropped, first_left_with}
use Rattle.run_opening.proofs.Leaving.{all-leave_on, one-leaves}
use Rattle.run_opening.proofs.opening.drop_all.Goals as goal

pub returns-in_err-drop_at_first-clause-goes : goal.returns-in_err-drop_at_first-clause-goes
returns-in_err-drop_at_first-clause-goes g c =
    let is : c.from_residual.result ≡ Err c.in_err-drop_at_first.field-0.0 = search rules in
    subst (λ r. DropsAll g.S.Store.durable g.S.Store.state c.args.script.now r c.args.stores.now c.drop_at_first.new.stores) (sym is)
    (first-err g.S.Store.durable g.S.Store.state c.args.script.now c.args.stores.now c.drop_at_first.new.stores c.requires.some c.requires.running c.in_err-drop_at_first.field-0.0 c.in_err-drop_at_first.ensures.goes)

pub created_at-requires : goal.created_at-requires
created_at-requires g c = record { running = first-runs g.S.Store.durable g.S.Store.state c.args.script.now c.args.stores.now c.drop_at_first.new.stores c.requires.some c.requires.running (tt {0}) c.in_ok-drop_at_first.ensures.goes c.index-stores-0.result }

pub returns-in_err-created-clause-goes : goal.returns-in_err-created-clause-goes
returns-in_err-created-clause-goes g c =
    let is : c.from_residual-in_err-created.result ≡ Err wanting = search rules in
    subst (λ r. DropsAll g.S.Store.durable g.S.Store.state c.args.script.now r c.args.stores.now c.drop_at_first.new.stores) (sym is)
    (first-wanting g.S.Store.durable g.S.Store.state c.args.script.now c.args.stores.now c.drop_at_first.new.stores c.requires.some c.requires.running (tt {0}) c.in_ok-drop_at_first.ensures.goes wanting refl)

pub thaw_each-requires-clause-running : goal.thaw_each-requires-clause-running
thaw_each-requires-clause-running g c =
    still-run g.S.Store.durable g.S.Store.state (only 0 (dropped c.args.script.now)) (tt {0}) c.args.stores.now c.drop_at_first.new.stores (first-all g.S.Store.durable g.S.Store.state c.args.script.now c.args.stores.now c.drop_at_first.new.stores c.requires.some c.requires.running (tt {0}) c.in_ok-drop_at_first.ensures.goes)

pub returns-clause-goes : goal.returns-clause-goes
returns-clause-goes g c =
    drops-all g.S.Store.durable g.S.Store.state c.args.script.now c.args.stores.now c.drop_at_first.new.stores c.requires.some c.requires.running (tt {0}) c.in_ok-drop_at_first.ensures.goes c.thaw_each.result c.as_slice.result.now c.thaw_each.new.stores c.index-stores-0.result
    (λ d told. c.as_slice.ensures.value ∙ c.in_ok-created.ensures d told) c.thaw_each.ensures.goes

pub returns-in_err-drop_at_first-clause-left : goal.returns-in_err-drop_at_first-clause-left
returns-in_err-drop_at_first-clause-left g c =
    inl (one-leaves g.S.Store.durable g.S.Store.state g.S.Store.may g.met.S.Store.steady 0 (dropped c.args.script.now) (first_dropped c.args.script.now) _ c.args.stores.now c.drop_at_first.new.stores c.requires.running c.in_err-drop_at_first.ensures.goes c.in_err-drop_at_first.ensures.left)

pub returns-in_err-created-clause-left : goal.returns-in_err-created-clause-left
returns-in_err-created-clause-left g c =
    inl (one-leaves g.S.Store.durable g.S.Store.state g.S.Store.may g.met.S.Store.steady 0 (dropped c.args.script.now) (first_dropped c.args.script.now) _ c.args.stores.now c.drop_at_first.new.stores c.requires.running c.in_ok-drop_at_first.ensures.goes c.in_ok-drop_at_first.ensures.left)

pub returns-clause-left : goal.returns-clause-left
returns-clause-left g c =
    let s = c.args.script.now in
    let first = first-all g.S.Store.durable g.S.Store.state s c.args.stores.now c.drop_at_first.new.stores c.requires.some c.requires.running (tt {0}) c.in_ok-drop_at_first.ensures.goes in
    inr (record {
      created = c.as_slice.result.now;
      holds = first-held g.S.Store.durable g.S.Store.state s c.args.stores.now c.drop_at_first.new.stores c.requires.some c.requires.running (tt {0}) c.in_ok-drop_at_first.ensures.goes c.as_slice.result.now c.index-stores-0.result
          (λ d told. c.as_slice.ensures.value ∙ c.in_ok-created.ensures d told);
      left = all-leave_on g.S.Store.durable g.S.Store.state g.S.Store.may g.met.S.Store.steady (only 0 (dropped s)) (λ t. first_left_with c.as_slice.result.now) (λ t n d. first_left_with c.as_slice.result.now n (only 0 (dropped s) t d)) (tt {0}) c.args.stores.now c.drop_at_first.new.stores c.thaw_each.new.stores first
          (λ t n d. (n, refl)) c.thaw_each.ensures.left;
    })
