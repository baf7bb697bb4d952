-- What the calls of a pool say of stops, from what the region below says.
use Rattle.std.proofs.Common.{◌≡◌, ℕ, ◌+◌, ◌≤◌, Bool, true, false, refl, sym, ◌∙◌, inl, inr, arith}
use Rattle.std.specs.Prelude.{◌⊎◌, Option, Result, Ok, Err}
use Rattle.base_outside.specs.Causes.{Rose}
use Rattle.base_types.specs.declared.epoch.Epoch.{Epoch}
use Rattle.base_types.specs.declared.outcome.FloorWhy.{FloorWhy}
use Rattle.daos_model.specs.BoolLaws.{clash}
use Rattle.pmem_pages.specs.Blocks.{Stops}
use Rattle.vos_pool_base.specs.Pool.{StopsBy}
use Rattle.daos_model.specs.declared.durable.Durable.{Durable}
use Rattle.vos_store.specs.Calls.{Ailed, Fires, Looks, State, Turns, UsesFuse}
use Rattle.vos_store.specs.Refusals.{refuses, says}

-- what a pool says of itself, by its counts
abbrev pub counted_state : Bool → Bool → ℕ → ℕ → ℕ → ℕ → Epoch × FloorWhy → State
counted_state can_burn stopped faults burns free targets opening = record {
  stopped = stopped;
  faults = faults;
  burns = burns;
  may_fail = true;
  fused = can_burn;
  tells_fuse = false;
  left = 0;
  free = free;
  targets = targets;
  opening = opening;
}

-- ---- a call that stops, or doesn't, by its result

-- a result of which every refusal is Stopped
pub stops_by : {T E : Type 0} (stop : E → Bool) (result : Result T E) (was is : Bool) (f f' b b' : ℕ) → ((e : E) → stop e ≡ true) → Stops was is f f' b b' result → StopsBy (says stop result) was is f f' b b'
stops_by stop (Ok x) was is f f' b b' each s = record {
  later_faults = s.later_faults;
  later_burns = s.later_burns;
  cause = λ no. absurd (clash false no refl);
  always = s.again;
  stopped = went was is s.went_on s.again;
}
  where
    went : (was is : Bool) → was ≡ is → (was ≡ true → false ≡ true) → is ≡ false
    went true is same again = absurd (clash false (again refl) refl)
    went false is same again = sym same
stops_by stop (Err e) was is f f' b b' each s = record {
  later_faults = s.later_faults;
  later_burns = s.later_burns;
  cause = λ _. s.cause;
  always = λ _. each e;
  stopped = s.stopped ∙ sym (each e);
}

-- a result that stops where another does
pub stops_as : {T U E F : Type 0} (stop : E → Bool) (stop' : F → Bool) (result : Result T E) (given : Result U F) (was is : Bool) (f f' b b' : ℕ) → says stop' given ≡ says stop result → StopsBy (says stop result) was is f f' b b' → StopsBy (says stop' given) was is f f' b b'
stops_as stop stop' result given was is f f' b b' same s = record {
  later_faults = s.later_faults;
  later_burns = s.later_burns;
  cause = λ stops. s.cause (sym same ∙ stops);
  always = λ stopped. same ∙ s.always stopped;
  stopped = s.stopped ∙ sym same;
}

-- nothing was done to the region, and the answer stops where the pool had stopped
pub stops_still : (stops was : Bool) (f b : ℕ) → stops ≡ was → StopsBy stops was was f f b b
stops_still stops was f b same = record {
  later_faults = omega arith;
  later_burns = omega arith;
  cause = λ is. inl (sym same ∙ is);
  always = λ is. same ∙ is;
  stopped = sym same;
}

-- one such call after another that didn't stop
pub stops_then : (stops was between is : Bool) (f f₁ f' b b₁ b' : ℕ) → StopsBy false was between f f₁ b b₁ → StopsBy stops between is f₁ f' b₁ b' → StopsBy stops was is f f' b b'
stops_then stops was between is f f₁ f' b b₁ b' first then_it = record {
  later_faults = omega (arith, first.later_faults, then_it.later_faults);
  later_burns = omega (arith, first.later_burns, then_it.later_burns);
  cause = λ is. elim (then_it.cause is) [
    | inl had ↦ absurd (clash between had first.stopped)
    | inr rose ↦ inr (elim rose [
      | inl faults ↦ inl (omega (arith, faults, first.later_faults))
      | inr burns ↦ inr (omega (arith, burns, first.later_burns))
    ])
  ];
  always = λ had. absurd (clash false (first.always had) refl);
  stopped = then_it.stopped;
}

-- ---- a pool

-- a fuse fires only where there may be one
no-fuse : (b : ℕ) → b ≡ 0 → Rose b b → ⊥
no-fuse b none rose = omega (arith, none, rose)

fires : (can_burn was is : Bool) (f f' b b' free free' targets targets' : ℕ) (opening opening' : Epoch × FloorWhy) → (can_burn ≡ false → b ≡ 0) → (can_burn ≡ false → b' ≡ 0) → Fires (counted_state can_burn was f b free targets opening) (counted_state can_burn is f' b' free' targets' opening')
fires true was is f f' b b' free free' targets targets' opening opening' none none' = inr (refl, refl)
fires false was is f f' b b' free free' targets targets' opening opening' none none' = inl (none' refl ∙ sym (none refl), refl)

ails : (can_burn was is : Bool) (f f' b b' free free' targets targets' : ℕ) (opening opening' : Epoch × FloorWhy) → (can_burn ≡ false → b ≡ 0) → (can_burn ≡ false → b' ≡ 0) → was ≡ false → (was ≡ true) ⊎ (Rose f f' ⊎ Rose b b') → Ailed (counted_state can_burn was f b free targets opening) (counted_state can_burn is f' b' free' targets' opening')
ails can_burn was is f f' b b' free free' targets targets' opening opening' none none' run (inl had) = absurd (clash was had run)
ails can_burn was is f f' b b' free free' targets targets' opening opening' none none' run (inr (inl rose)) = inl rose
ails true was is f f' b b' free free' targets targets' opening opening' none none' run (inr (inr rose)) = inr (rose, refl, refl)
ails false was is f f' b b' free free' targets targets' opening opening' none none' run (inr (inr rose)) = let n = none refl in let n' = none' refl in absurd (omega (arith, rose, n, n'))

-- A call of a pool that stops as this says: it costs so many free blocks, none where it is refused or the pool had stopped, and its region is
-- never failed by a fuse where it can't have one.
pub turns : {T E : Type 0} (cost : ℕ) (stop : E → Bool) (result : Result T E) (can_burn was is : Bool) (f f' b b' free free' targets : ℕ) (opening : Epoch × FloorWhy)
    → (can_burn ≡ false → b ≡ 0) → (can_burn ≡ false → b' ≡ 0) → StopsBy (says stop result) was is f f' b b'
    → free ≤ free' + cost → (refuses stop result ≡ true → free' ≡ free) → (was ≡ true → free' ≡ free)
    → Turns cost stop result (counted_state can_burn was f b free targets opening) (counted_state can_burn is f' b' free' targets opening)
turns cost stop result can_burn was is f f' b b' free free' targets opening none none' s costs refused idle = record {
  faults = s.later_faults;
  burns = s.later_burns;
  fuse = fires can_burn was is f f' b b' free free' targets targets opening opening none none';
  tells_fuse = refl;
  may_fail = refl;
  sure = λ no. absurd (clash true refl no);
  unfailing = λ no _. absurd (clash true refl no);
  stops = s.stopped;
  always = s.always;
  cause = λ run stops. ails can_burn was is f f' b b' free free' targets targets opening opening none none' run (s.cause stops);
  targets = refl;
  opening = refl;
  free = costs;
  refused = refused;
  idle = idle;
}

-- a fuse isn't told
pub uses_fuse : {T E : Type 0} (stop : E → Bool) (result : Result T E) (can_burn was is : Bool) (f f' b b' free free' targets targets' : ℕ) (opening opening' : Epoch × FloorWhy) → UsesFuse stop result (counted_state can_burn was f b free targets opening) (counted_state can_burn is f' b' free' targets' opening')
uses_fuse stop result can_burn was is f f' b b' free free' targets targets' opening opening' = record {
  used = λ told. absurd (clash false told refl);
  fires = λ told. absurd (clash false told refl);
  refused = λ _. refl;
  idle = λ _. refl;
}

-- ---- calls that do nothing to the region

-- what a store says of itself stays, and it answers Stopped where it had stopped
pub turns_still : {T E : Type 0} (cost : ℕ) (stop : E → Bool) (result : Result T E) (h : State) → says stop result ≡ h.stopped → Turns cost stop result h h
turns_still cost stop result h same = record {
  faults = omega arith;
  burns = omega arith;
  fuse = inl (refl, refl);
  tells_fuse = refl;
  may_fail = refl;
  sure = λ _. refl;
  unfailing = λ _ _. same;
  stops = sym same;
  always = λ stopped. same ∙ stopped;
  cause = λ run stops. absurd (clash (says stop result) stops (same ∙ run));
  targets = refl;
  opening = refl;
  free = omega arith;
  refused = λ _. refl;
  idle = λ _. refl;
}

pub looks_still : (stopped : Bool) (old : Option Durable) (may : Durable → Type 0) → Looks stopped old old may may
looks_still stopped old may = record {
  told = refl;
  same = λ _. refl;
  left = λ x found. found;
}
