use Rattle.std.proofs.Common.{◌≡◌, ◌∙◌, Option, Some, ap, false, refl, subst, sym, true}
use Rattle.std.specs.Option.{option_map}
use Rattle.base_types.specs.declared.id.ContId.{ContId}
use Rattle.daos_model.specs.declared.durable.Durable.{Durable}
use Rattle.daos_model.specs.Changes.{pruned}
use Rattle.daos_model.specs.Durables.{is_enlisted}
use Rattle.vos_store.specs.Conditions.{CanPrune}
use Rattle.vos_tests.specs.Rows.{cont, epoch, put_two}
use Rattle.vos_tests.proofs.Allowed.{at-told, can_prune, enlisted-pruned, enlisted-put, value_read}
use Rattle.vos_tests.proofs.rows.prune_over.Goals as goal

-- a container that is the one of the rows is there where that is
there : (o : Option Durable) (d : Durable) (c : ContId) → c ≡ cont → o ≡ Some d → is_enlisted d cont ≡ true → (x : Durable) → o ≡ Some x → is_enlisted x c ≡ true
there o d c its told is = at-told (λ x. is_enlisted x c ≡ true) o d told (subst (λ k. is_enlisted d k ≡ true) (sym its) is)

-- what stands once it was pruned
left : (o p q : Option Durable) → o ≡ Some put_two → p ≡ o → q ≡ option_map (pruned cont (epoch 600) 0) p → q ≡ Some (pruned cont (epoch 600) 0 put_two)
left o p q e f h = h ∙ ap (option_map (pruned cont (epoch 600) 0)) (f ∙ e)

pub later_write-requires-clause-enlisted : goal.later_write-requires-clause-enlisted
later_write-requires-clause-enlisted g c runs =
    there (g.S.Store.durable c.put_two.new.store) put_two c.in_ok-path.path.cont (ap (λ p. p.cont) c.in_ok-path.ensures) c.in_ok-put_two.ensures.kept enlisted-put

pub prune-requires : goal.prune-requires
prune-requires g c runs =
    at-told (CanPrune cont (epoch 600)) (g.S.Store.durable c.later_write.new.self) put_two
    (c.later_write.ensures.kept.same (sym c.later_write.ensures.call.stops ∙ runs) ∙ c.in_ok-put_two.ensures.kept) can_prune

pub fetch-below-requires-clause-form : goal.fetch-below-requires-clause-form
fetch-below-requires-clause-form g c = value_read c.in_ok-path.path c.in_ok-path.ensures

pub fetch-below-requires-clause-enlisted : goal.fetch-below-requires-clause-enlisted
fetch-below-requires-clause-enlisted g c runs =
    there (g.S.Store.durable c.prune.new.self) (pruned cont (epoch 600) 0 put_two) c.in_ok-path.path.cont (ap (λ p. p.cont) c.in_ok-path.ensures)
    (left (g.S.Store.durable c.put_two.new.store) (g.S.Store.durable c.later_write.new.self) (g.S.Store.durable c.prune.new.self) c.in_ok-put_two.ensures.kept (c.in_ok-later.ensures.kept.same refl) c.in_ok-prune.ensures.kept.done) enlisted-pruned

pub fetch-above-requires-clause-form : goal.fetch-above-requires-clause-form
fetch-above-requires-clause-form g c = value_read c.in_ok-path.path c.in_ok-path.ensures

pub fetch-above-requires-clause-enlisted : goal.fetch-above-requires-clause-enlisted
fetch-above-requires-clause-enlisted g c runs =
    there (g.S.Store.durable c.fetch-below.new.self) (pruned cont (epoch 600) 0 put_two) c.in_ok-path.path.cont (ap (λ p. p.cont) c.in_ok-path.ensures)
    (c.fetch-below.ensures.kept.same (sym c.fetch-below.ensures.call.stops ∙ runs)
    ∙ left (g.S.Store.durable c.put_two.new.store) (g.S.Store.durable c.later_write.new.self) (g.S.Store.durable c.prune.new.self) c.in_ok-put_two.ensures.kept (c.in_ok-later.ensures.kept.same refl) c.in_ok-prune.ensures.kept.done) enlisted-pruned
