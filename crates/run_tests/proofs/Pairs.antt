-- Two new stores.
use Rattle.std.specs.Prelude.{ℕ, Bool, ◌≡◌, ◌≤◌, ◌<◌, ◌+◌, ◌*◌, ◌-◌, ◌^◌, List, [], ◌∷◌, replicate, slice_set, Option, Some, None, refl}
use Rattle.std.proofs.Common.{suc, zero, sym, ◌∙◌, ap, subst, arith}
use Rattle.daos_model.specs.Durables.{empty_durable}
use Rattle.daos_model.specs.declared.durable.Durable.{Durable}
use Rattle.daos_run.specs.Opens.{MayRun}
use Rattle.daos_run.specs.Slots.{IsAt}
use Rattle.run_opening.specs.All.{AreKept}
use Rattle.run_opening.specs.Laws.{AreUnused}
use Rattle.run_opening.specs.FloorLaws.{unused-floored}
use Rattle.run_opening.specs.UnusedLaws.{unused-sound}
use Rattle.run_starts.specs.Starts.{CanOpen}
use Rattle.run_tests.proofs.Places.{same-some}
use Rattle.run_tests.specs.Pair.{AreReady, told_by}
use Rattle.vos_plain.specs.Plain.{new_state, plain_durable, plain_state}
use Rattle.vos_plain.specs.declared.store.PlainStore.{PlainStore}

-- what two new stores keep
abbrev fresh : List Durable
fresh = empty_durable 1 ∷ empty_durable 1 ∷ []

fresh-unused : AreUnused fresh
fresh-unused zero d at = (1, sym (same-some (empty_durable 1) d at))
fresh-unused (suc zero) d at = (1, sym (same-some (empty_durable 1) d at))
fresh-unused (suc (suc t)) d at = absurd (let e : None ≡ Some d = at in cc)

fresh-opens : CanOpen fresh
fresh-opens = record { sound = unused-sound fresh fresh-unused; floored = unused-floored fresh fresh-unused }

-- a new store, whatever fails it
pub record IsFresh (store : PlainStore) : Type 0 where
  pub durable : plain_durable store ≡ empty_durable 1
  pub fails : Bool
  pub state : plain_state store ≡ record (new_state (2 * 4096 - 1264)) { may_fail = fails }

fresh-runs : (store : PlainStore) → IsFresh store → MayRun told_by plain_state 2 store
fresh-runs store k = record {
  running = ap (λ h. h.stopped) k.state;
  made = omega arith;
  seldom = λ d told. subst (λ e. e.incarnation ≤ 2 ^ 63 + 1) (same-some (plain_durable store) d told) (subst (λ e. e.incarnation ≤ 2 ^ 63 + 1) (sym k.durable) (omega arith));
}

module _ {C : Type 0} (a b : PlainStore) (u v : C) (k : IsFresh a) (l : IsFresh b) where
  abbrev both : List (Option (PlainStore × C))
  both = Some (a, u) ∷ Some (b, v) ∷ []

  there : (t : ℕ) → t < 2 → (z : PlainStore × C) × IsAt both t z
  there zero low = ((a, u), refl)
  there (suc zero) low = ((b, v), refl)
  there (suc (suc t)) low = absurd (omega (arith, low))

  runs : (t : ℕ) (z : PlainStore × C) → IsAt both t z → MayRun told_by plain_state 2 z.0
  runs zero z at = subst (λ w. MayRun told_by plain_state 2 w.0) (let e : Some (a, u) ≡ Some z = same-some (Some (a, u)) (Some z) at in same-some (a, u) z e) (fresh-runs a k)
  runs (suc zero) z at = subst (λ w. MayRun told_by plain_state 2 w.0) (let e : Some (b, v) ≡ Some z = same-some (Some (b, v)) (Some z) at in same-some (b, v) z e) (fresh-runs b l)
  runs (suc (suc t)) z at = absurd (let e : None ≡ Some (Some z) = at in cc)

  kept-fresh : (B : List Durable) → AreKept told_by (a ∷ b ∷ []) B → B ≡ fresh
  kept-fresh [] h = absurd (let many = h.many in omega (arith, many))
  kept-fresh (d ∷ []) h = absurd (let many = h.many in omega (arith, many))
  kept-fresh (d ∷ e ∷ []) h =
      let one : d ≡ empty_durable 1 = sym (same-some (plain_durable a) d (h.each 0 a d refl refl)) ∙ k.durable in
      let two : e ≡ empty_durable 1 = sym (same-some (plain_durable b) e (h.each 1 b e refl refl)) ∙ l.durable in
      ap (λ z. z ∷ e ∷ []) one ∙ ap (λ z. empty_durable 1 ∷ z ∷ []) two
  kept-fresh (d ∷ e ∷ f ∷ B) h = absurd (let many = h.many in omega (arith, many))

  both-ready : AreReady 2 both
  both-ready = record {
    have = record { set = record { many = refl; each = there }; each = runs };
    open_any = λ B kept. subst CanOpen (sym (kept-fresh B kept)) fresh-opens;
  }

  pub pair-ready : (parts mid slots : List (Option (PlainStore × C))) → parts ≡ replicate 2 None → mid ≡ slice_set parts 0 (Some (a, u)) → slots ≡ slice_set mid 1 (Some (b, v)) → AreReady 2 slots
  pair-ready parts mid slots empty one two =
      let is : slots ≡ both = two ∙ ap (λ ys. slice_set ys 1 (Some (b, v))) (one ∙ ap (λ ys. slice_set ys 0 (Some (a, u))) empty) in
      subst (AreReady 2) (sym is) both-ready
