-- Stores and clocks after some turns of targets.
use Rattle.std.specs.Prelude.{ℕ, ◌≡◌, ◌<◌, Bool, List, slice_get, slice_set, Option, Some, is_some, Result, refl}
use Rattle.std.proofs.Common.{inl, inr, sym, ◌∙◌, ap, subst, arith}
use Rattle.std.proofs.lemmas.Bool.{cases_eq}
use Rattle.std.proofs.lemmas.Option.{slice_get_within}
use Rattle.daos_model.specs.declared.durable.Durable.{Durable}
use Rattle.model_laws.specs.Lists.{at-within}
use Rattle.run_laws.specs.shows.Accounts.{AreServed, IsServed}
use Rattle.run_laws.specs.shows.ListLaws.{length-set}
use Rattle.run_laws.specs.shows.Openings.{HasFuse}
use Rattle.target_core.specs.Targets.{TargetOf}
use Rattle.run_opening.specs.target_parts.Parts.{Runs}
use Rattle.run_opening.specs.target_parts.Readings.{IsReadOn, not-read_on, read-further}
use Rattle.run_opening.specs.target_parts.declared.stop.TargetStop.{TargetStop}
use Rattle.target_core.specs.target_resync.Openings.{Reopens}
use Rattle.vos_store.specs.Calls.{State}
use Rattle.world_base.specs.StepLaws.{set-is, set-there}

-- ---- stores and clocks

-- by none
pub served-same : (h : State) (o : Option Durable) → IsServed h h o o
served-same h o = record { faults = omega arith; burns = omega arith; tells_fuse = refl; may_fail = refl; sure = λ off. refl; targets = refl; told = refl }

-- by calls after others
pub served-on : (h k l : State) (o p q : Option Durable) → IsServed h k o p → IsServed k l p q → IsServed h l o q
served-on h k l o p q one two = record {
  faults = let a = one.faults in let b = two.faults in omega (arith, a, b);
  burns = let a = one.burns in let b = two.burns in omega (arith, a, b);
  tells_fuse = two.tells_fuse ∙ one.tells_fuse;
  may_fail = two.may_fail ∙ one.may_fail;
  sure = λ off. two.sure (one.may_fail ∙ off) ∙ one.sure off;
  targets = two.targets ∙ one.targets;
  told = two.told ∙ one.told;
}

module _ {S C : Type 0} (durable : S → Option Durable) (state : S → State) (is_read : C → C → Type 0) where
  -- before any turn
  pub served-first : (xs : List (TargetOf S C)) → AreServed durable state is_read xs xs
  served-first xs = record {
    many = refl;
    stores = λ t x y at here. let same : x ≡ y = let e : Some x ≡ Some y = sym at ∙ here in cc in subst (λ z. IsServed (state x.store) (state z.store) (durable x.store) (durable z.store)) same (served-same (state x.store) (durable x.store));
    clocks = λ t x y at here. let same : x ≡ y = let e : Some x ≡ Some y = sym at ∙ here in cc in subst (λ z. IsReadOn is_read x.clock z.clock) same (not-read_on is_read x.clock);
  }

  -- some turns after others
  pub served-then : (xs ys zs : List (TargetOf S C)) → AreServed durable state is_read xs ys → AreServed durable state is_read ys zs → AreServed durable state is_read xs zs
  served-then xs ys zs k l = record {
    many = l.many ∙ k.many;
    stores = λ t x z at there.
        let y = at-within ys t (subst (λ n. t < n) (sym k.many) (slice_get_within xs t x at)) in
        served-on (state x.store) (state y.0.store) (state z.store) (durable x.store) (durable y.0.store) (durable z.store) (k.stores t x y.0 at y.1) (l.stores t y.0 z y.1 there);
    clocks = λ t x z at there.
        let y = at-within ys t (subst (λ n. t < n) (sym k.many) (slice_get_within xs t x at)) in
        read-further is_read x.clock y.0.clock z.clock (k.clocks t x y.0 at y.1) (l.clocks t y.0 z y.1 there);
  }

-- ---- one store

-- by calls of a turn
pub served-by-runs : {T E : Type 0} (stop : E → Bool) (result : Result T E) (h k : State) (o p : Option Durable) → Runs stop result h k o p → IsServed h k o p
served-by-runs stop result h k o p r = record { faults = r.faults; burns = r.burns; tells_fuse = r.tells_fuse; may_fail = r.may_fail; sure = r.sure; targets = r.targets; told = r.told }

-- by an opening
pub served-by-opening : {T : Type 0} (result : Result T TargetStop) (h k : State) (o p : Option Durable) → Reopens result h k o p → IsServed h k o p
served-by-opening result h k o p r = record { faults = r.faults; burns = r.burns; tells_fuse = r.tells_fuse; may_fail = r.may_fail; sure = r.sure; targets = r.targets; told = r.told }

-- by setting a fuse
pub served-by-fuse : {S C : Type 0} (durable : S → Option Durable) (state : S → State) (may : S → Durable → Type 0) (k : ℕ) (x y : TargetOf S C) → HasFuse durable state may k x y → IsServed (state x.store) (state y.store) (durable x.store) (durable y.store)
served-by-fuse durable state may k x y f = record {
  faults = let e = ap (λ h. h.faults) f.state_is.rest in omega (arith, e);
  burns = let e = ap (λ h. h.burns) f.state_is.rest in omega (arith, e);
  tells_fuse = ap (λ h. h.tells_fuse) f.state_is.rest;
  may_fail = ap (λ h. h.may_fail) f.state_is.rest;
  sure = λ off. ap (λ h. h.faults) f.state_is.rest;
  targets = ap (λ h. h.targets) f.state_is.rest;
  told = ap is_some f.kept;
}

-- ---- one target

module _ {S C : Type 0} (durable : S → Option Durable) (state : S → State) (is_read : C → C → Type 0) (xs : List (TargetOf S C)) (t : ℕ) (x y : TargetOf S C) (at : slice_get xs t ≡ Some x) where
  -- of two lists of targets one target changed
  pub each-pair : (P : ℕ → TargetOf S C → TargetOf S C → Type 0) → P t x y → ((u : ℕ) (z : TargetOf S C) → (u ≡ t → ⊥) → P u z z) → (u : ℕ) (p q : TargetOf S C) → slice_get xs u ≡ Some p → slice_get (slice_set xs t y) u ≡ Some q → P u p q
  each-pair P one others u p q here there = elim (cases_eq u t) [
    | inl same ↦
        let first : x ≡ p = let e : Some x ≡ Some p = sym at ∙ subst (λ v. slice_get xs v ≡ Some p) same here in cc in
        let second : y ≡ q = set-is xs t y q (subst (λ v. slice_get (slice_set xs t y) v ≡ Some q) same there) in
        subst (λ v. P v p q) (sym same) (subst (λ z. P t p z) second (subst (λ z. P t z y) first one))
    | inr apart ↦ (let same : p ≡ q = let e : Some p ≡ Some q = sym here ∙ (sym (set-there xs t u y apart) ∙ there) in cc in subst (P u p) same (others u p apart))
  ]

  pub served-one : IsServed (state x.store) (state y.store) (durable x.store) (durable y.store) → IsReadOn is_read x.clock y.clock → AreServed durable state is_read xs (slice_set xs t y)
  served-one served read = record {
    many = length-set xs t y;
    stores = each-pair (λ v z w. IsServed (state z.store) (state w.store) (durable z.store) (durable w.store)) served (λ v z apart. served-same (state z.store) (durable z.store));
    clocks = each-pair (λ v z w. IsReadOn is_read z.clock w.clock) read (λ v z apart. not-read_on is_read z.clock);
  }
