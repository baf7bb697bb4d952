-- What calls leave of stores whose fuses were taken away, where one of them isn't opened.
use Rattle.std.specs.Prelude.{ℕ, ◌≡◌, ◌&&◌, Bool, true, false, List, Option, Result, Err, refl}
use Rattle.std.proofs.Common.{inl, inr, sym, ◌∙◌, ap, subst}
use Rattle.std.proofs.lemmas.Bool.{true≢false}
use Rattle.base_outside.specs.Causes.{Rose}
use Rattle.daos_model.specs.declared.durable.Durable.{Durable}
use Rattle.daos_run.specs.declared.stop.RunStop.{RunStop}
use Rattle.daos_run.specs.declared.stop.RunStop.TheVariants as stop
use Rattle.daos_run.specs.Slots.{AreClocksIn, AreSet, ClocksAreRead, ClocksStay, FromTo, FusesAreGone, HasNoFuse, IsAt, StoresAreServed}
use Rattle.daos_run.specs.Stops.{HasRisen, IsOpeningFault, is_fault_of}
use Rattle.daos_run.proofs.Places.{at-low}
use Rattle.model_laws.specs.TargetLaws.{same_number}
use Rattle.run_targets.specs.Below.{served-by-runs, served-on}
use Rattle.run_starts.specs.target_parts.Parts.{Runs}
use Rattle.run_starts.specs.target_parts.Readings.{IsReadOn, not-read_on}
use Rattle.vos_store.specs.Calls.{Ailed, Fires, SetsFuse, State}

-- ---- one store

-- where its fuse was taken away, and what then failed it is that of its fuse, it doesn't tell its fuse
pub risen-on : (h m k : State) → SetsFuse 0 h m → Ailed m k → HasRisen h k
risen-on h m k set (inl rose) = inl (subst (λ n. Rose n k.faults) (ap (λ x. x.faults) set.rest) rose)
risen-on h m k set (inr burnt) = by h.tells_fuse refl
  where
    by : (b : Bool) → h.tells_fuse ≡ b → HasRisen h k
    by true tells = absurd (true≢false (sym burnt.1 ∙ (set.told tells).0))
    by false silent = inr (subst (λ n. Rose n k.burns) (ap (λ x. x.burns) set.rest) burnt.0, silent)

-- calls set no fuse
pub gone-on : (m k : State) → Fires m k → k.tells_fuse ≡ m.tells_fuse → (m.tells_fuse ≡ true → m.fused ≡ false) → k.tells_fuse ≡ true → k.fused ≡ false
gone-on m k (inl same) alike gone tells = same.1 ∙ gone (sym alike ∙ tells)
gone-on m k (inr fired) alike gone tells = sym (ap (λ b. b && k.fused) (sym alike ∙ tells)) ∙ fired.1

-- ---- all stores

module _ {S C : Type 0} (durable : S → Option Durable) (state : S → State) (targets : ℕ) (old mid new : List (Option (S × C))) (before : AreSet targets old) (between : AreSet targets mid) where
  -- the store and the clock that were there in the meantime
  meanwhile : (t : ℕ) (x : S × C) → IsAt old t x → (m : S × C) × IsAt mid t m
  meanwhile t x at = between.each t (at-low targets old before t x at)

  pub served-through : StoresAreServed durable state old mid → StoresAreServed durable state mid new → StoresAreServed durable state old new
  served-through k l t x y at to =
      let m = meanwhile t x at in
      served-on (state x.0) (state m.0.0) (state y.0) (durable x.0) (durable m.0.0) (durable y.0) (k t x m.0 at m.1) (l t m.0 y m.1 to)

  pub read-through : (is_read : C → C → Type 0) → ClocksStay old mid → ClocksAreRead is_read mid new → ClocksAreRead is_read old new
  read-through is_read k l t x y at to =
      let m = meanwhile t x at in
      subst (λ c. IsReadOn is_read c y.1) (k t x m.0 at m.1) (l t m.0 y m.1 to)

  -- clocks that stay in the meantime
  pub clocks-through : ClocksStay old mid → (t : ℕ) (c d : C) → AreClocksIn old new t c d → AreClocksIn mid new t c d
  clocks-through stay t c d k =
      let m = meanwhile t k.before k.at in
      record { before = m.0; after = k.after; at = m.1; there = k.there; first = k.first ∙ sym (stay t k.before m.0 k.at m.1); last = k.last }

  -- a store that isn't opened was failed by the outside, or doesn't tell its fuse
  pub opening-fault : {T : Type 0} (may : S → Durable → Type 0) (stop : RunStop) → FromTo old mid (λ t a b. HasNoFuse durable state may a b)
      → FromTo mid new (λ t a b. Runs {T = T} (is_fault_of t) (Err stop) (state a) (state b) (durable a) (durable b)) → IsOpeningFault state old new stop
  opening-fault may (stop.RackFault target) F R = λ x y at to.
      let m = meanwhile target x at in
      let r = R target m.0 y m.1 to in
      risen-on (state x.0) (state m.0.0) (state y.0) (F target x m.0 at m.1).state_is (r.cause (same_number target))
  opening-fault may (stop.Foreign target at byte) F R = tt
  opening-fault may (stop.Shape target what found asked) F R = tt
  opening-fault may stop.Memory F R = tt

module _ {S C T : Type 0} (durable : S → Option Durable) (state : S → State) (targets : ℕ) (old new : List (Option (S × C))) (result : Result T RunStop) (before : AreSet targets old) (after : AreSet targets new)
    (R : FromTo old new (λ t a b. Runs (is_fault_of t) result (state a) (state b) (durable a) (durable b))) where
  pub calls-served : StoresAreServed durable state old new
  calls-served t x y at to = served-by-runs (is_fault_of t) result (state x.0) (state y.0) (durable x.0) (durable y.0) (R t x y at to)

  pub calls-gone : FusesAreGone state old → FusesAreGone state new
  calls-gone gone t y to =
      let x = before.each t (at-low targets new after t y to) in
      let r = R t x.0 y x.1 to in
      gone-on (state x.0.0) (state y.0) r.fuse r.tells_fuse (gone t x.0 x.1)

-- clocks that stay aren't read
pub stay-read : {S C : Type 0} (is_read : C → C → Type 0) (old new : List (Option (S × C))) → ClocksStay old new → ClocksAreRead is_read old new
stay-read is_read old new k t x y at to = subst (IsReadOn is_read x.1) (sym (k t x y at to)) (not-read_on is_read x.1)
