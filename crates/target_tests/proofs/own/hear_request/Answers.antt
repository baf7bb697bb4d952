use Rattle.std.proofs.Common.{inl, subst, sym}
use Rattle.std.specs.Option.{ForSome}
use Rattle.target_core.specs.Targets.{CanHear, HasForm}
use Rattle.target_tests.specs.Own.{first}
use Rattle.target_tests.proofs.Owning.{request_form, request_heard}
use Rattle.target_tests.proofs.own.hear_request.Goals as goal

pub hear-requires-clause-form : goal.hear-requires-clause-form
hear-requires-clause-form g c = inl (subst (λ t. HasForm t c.in_ok-message.message) (sym c.requires.plan) (subst (HasForm first) (sym c.in_ok-message.ensures) request_form))

pub hear-requires-clause-here : goal.hear-requires-clause-here
hear-requires-clause-here g c =
    subst (λ t. ForSome (g.S.Store.durable c.args.target.now.store) (CanHear t c.in_ok-message.message)) (sym c.requires.plan)
    (subst (λ x. ForSome (g.S.Store.durable c.args.target.now.store) (CanHear first x)) (sym c.in_ok-message.ensures) (λ d at. request_heard d (c.requires.new d at)))
