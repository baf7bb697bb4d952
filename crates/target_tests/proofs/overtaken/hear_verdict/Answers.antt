use Rattle.std.proofs.Common.{inl, subst, sym}
use Rattle.std.specs.Option.{ForSome}
use Rattle.target_core.specs.Targets.{CanHear, HasForm}
use Rattle.target_tests.proofs.overtaken.hear_verdict.Goals as goal

pub hear-requires-clause-form : goal.hear-requires-clause-form
hear-requires-clause-form g c = inl (subst (HasForm c.args.target.now.plan) (sym c.verdict.ensures) tt)

pub hear-requires-clause-here : goal.hear-requires-clause-here
hear-requires-clause-here g c = subst (λ x. ForSome (g.S.Store.durable c.args.target.now.store) (CanHear c.args.target.now.plan x)) (sym c.verdict.ensures) (λ d at. tt)
