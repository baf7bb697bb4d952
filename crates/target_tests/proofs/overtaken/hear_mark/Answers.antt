use Rattle.std.specs.Prelude.{◌≡◌, true}
use Rattle.std.proofs.lemmas.Bool.{true≢false}
use Rattle.world_base.specs.Stops.{is_prune_message}
use Rattle.std.proofs.Common.{inl, subst, sym}
use Rattle.std.specs.Option.{ForSome}
use Rattle.target_core.specs.Targets.{CanHear, HasForm}
use Rattle.target_parts.specs.Running.{for_some_on}
use Rattle.target_tests.specs.Overtaken.{IsNew}
use Rattle.target_tests.proofs.Overtaking.{mark_turn}
use Rattle.target_tests.proofs.overtaken.hear_mark.Goals as goal

pub hear-requires-clause-form : goal.hear-requires-clause-form
hear-requires-clause-form g c = inl (subst (HasForm c.args.target.now.plan) (sym c.in_ok-message.ensures) tt)

pub hear-requires-clause-here : goal.hear-requires-clause-here
hear-requires-clause-here g c =
    subst (λ x. ForSome (g.S.Store.durable c.args.target.now.store) (CanHear c.args.target.now.plan x)) (sym c.in_ok-message.ensures) (λ d at. tt)

pub returns-clause-new : goal.returns-clause-new
returns-clause-new g c =
    for_some_on (g.S.Store.durable c.args.target.now.store) _ IsNew c.in_ok-hear.ensures.runs.told
    (λ d at. mark_turn _ _ _ _ _ d (g.S.Store.state c.args.target.now.store) (g.S.Store.state c.hear.new.self.store) (g.S.Store.durable c.hear.new.self.store) (g.S.Store.may c.hear.new.self.store) _ _ c.in_ok-message.ensures (c.in_ok-hear.ensures.turn.2 0 (λ prune. absurd (true≢false (sym (subst (λ x. is_prune_message x ≡ true) c.in_ok-message.ensures prune)))) d at) (c.requires.new d at))
