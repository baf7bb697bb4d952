use Rattle.std.proofs.Common.{◌≡◌, ℕ, ◌∙◌, Option, Some, true, ap, subst, sym}
use Rattle.std.specs.Option.{option_map}
use Rattle.base_types.specs.declared.entry.Settle.TheVariants.{Commit}
use Rattle.base_types.specs.declared.id.AttemptId.{AttemptId}
use Rattle.base_types.specs.declared.operation.Write.{Write}
use Rattle.daos_model.specs.declared.durable.Durable.{Durable}
use Rattle.daos_model.specs.Changes.{settled}
use Rattle.daos_model.specs.Durables.{is_enlisted}
use Rattle.vos_store.specs.Conditions.{CanSettle}
use Rattle.vos_tests.specs.Rows.{attempt, cont, staged}
use Rattle.vos_tests.proofs.Allowed.{at-told, can_commit, enlisted-settled, read_here}
use Rattle.vos_tests.proofs.rows.read_around.Goals as goal

pub settle-requires-clause-here : goal.settle-requires-clause-here
settle-requires-clause-here g c = λ runs.
    at-told (CanSettle c.attempt.result Commit) (g.S.Store.durable c.stage.new.store) (staged 0 c.in_ok-write.write) c.in_ok-stage.ensures.kept
    (subst (λ a. CanSettle a Commit (staged 0 c.in_ok-write.write)) (sym c.attempt.ensures) (can_commit 0 c.in_ok-write.write))

pub fetch-parts-requires-clause-form : goal.fetch-parts-requires-clause-form
fetch-parts-requires-clause-form g c = read_here c.in_ok-akey.field-0 c.in_ok-akey.ensures

committed : (o p : Option Durable) (n : ℕ) (w : Write) (a : AttemptId) → a ≡ attempt n → o ≡ Some (staged n w) → p ≡ option_map (settled a Commit) o → p ≡ Some (settled (attempt n) Commit (staged n w))
committed o p n w a h e f = f ∙ ap (option_map (settled a Commit)) e ∙ ap (λ x. Some (settled x Commit (staged n w))) h

pub fetch-parts-requires-clause-enlisted : goal.fetch-parts-requires-clause-enlisted
fetch-parts-requires-clause-enlisted g c = λ runs.
    at-told (λ d. is_enlisted d c.in_ok-akey.field-0.cont ≡ true) (g.S.Store.durable c.settle.new.self) (settled (attempt 0) Commit (staged 0 c.in_ok-write.write))
    (committed (g.S.Store.durable c.stage.new.store) (g.S.Store.durable c.settle.new.self) 0 c.in_ok-write.write c.attempt.result c.attempt.ensures c.in_ok-stage.ensures.kept c.in_ok-settle.ensures.kept.done)
    (subst (λ p. is_enlisted (settled (attempt 0) Commit (staged 0 c.in_ok-write.write)) p.cont ≡ true) (sym c.in_ok-akey.ensures) (enlisted-settled 0 c.in_ok-write.write))

pub objects-requires : goal.objects-requires
objects-requires g c = record {
  enlisted = λ runs.
      at-told (λ d. is_enlisted d cont ≡ true) (g.S.Store.durable c.fetch-parts.new.self) (settled (attempt 0) Commit (staged 0 c.in_ok-write.write))
      (c.fetch-parts.ensures.kept.same (sym c.fetch-parts.ensures.call.stops ∙ runs)
      ∙ committed (g.S.Store.durable c.stage.new.store) (g.S.Store.durable c.settle.new.self) 0 c.in_ok-write.write c.attempt.result c.attempt.ensures c.in_ok-stage.ensures.kept c.in_ok-settle.ensures.kept.done)
      (enlisted-settled 0 c.in_ok-write.write);
}
