-- Why a run gives no report.
use Rattle.std.specs.Prelude.{ℕ, ◌≡◌, ◌≤◌, ◌<◌, ◌==◌, ◌⊎◌, Bool, false, List, [], Option, Some, Result, OnOk}
use Rattle.base_types.specs.declared.id.ContId.{ContId}
use Rattle.daos_status.specs.declared.part.Part.TheVariants.{Containers}
use Rattle.daos_model.specs.declared.durable.Durable.{Durable}
use Rattle.daos_run.specs.declared.stop.RunStop.{RunStop}
use Rattle.daos_run.specs.declared.stop.RunStop.TheVariants as stop
use Rattle.base_outside.specs.Causes.{Rose}
use Rattle.daos_run.specs.Slots.{AreSet, ClocksStay, FromTo, IsAt}
use Rattle.run_starts.specs.Calls.{AreTooMany}
use Rattle.run_starts.specs.declared.stop.StartStop.{StartStop}
use Rattle.run_starts.specs.declared.stop.StartStop.TheVariants as start
use Rattle.run_starts.specs.target_parts.Parts.{Runs}
use Rattle.vos_store.specs.Calls.{State}

-- stores aren't opened, for this reason
abbrev pub stopped_by : StartStop → RunStop
stopped_by (start.Stopped target) = stop.RackFault target
stopped_by (start.TooMany target together) = stop.Shape target Containers together 256
stopped_by start.Memory = stop.Memory

-- What may stop a run on these stores, of so many targets: a fault of the store of a target; the containers of a store, with those of the
-- script, are more than it has places for; or memory was wanting.
abbrev pub MayStop : {S : Type 0} → (S → Option Durable) → List ContId → ℕ → List S → RunStop → Type 0
MayStop {S} durable cs targets stores (stop.RackFault target) = target < targets
MayStop {S} durable cs targets stores (stop.Foreign target at byte) = ⊥
MayStop {S} durable cs targets stores (stop.Shape target what found asked) = (target < targets) × (what ≡ Containers) × AreTooMany durable cs stores target found × (asked ≡ 256)
MayStop {S} durable cs targets stores stop.Memory = Unit {0}

-- it is the fault of this target's store
abbrev pub is_fault_of : ℕ → RunStop → Bool
is_fault_of t (stop.RackFault target) = t == target
is_fault_of t (stop.Foreign target at byte) = false
is_fault_of t (stop.Shape target what found asked) = false
is_fault_of t stop.Memory = false

-- the outside failed a store; or a fuse did, where it doesn't tell its fuse
abbrev pub HasRisen : State → State → Type 0
HasRisen h k = Rose h.faults k.faults ⊎ (Rose h.burns k.burns × (h.tells_fuse ≡ false))

-- a fault of a store's opening is one by which a count of it rose
abbrev pub IsOpeningFault : {S C : Type 0} → (S → State) → List (Option (S × C)) → List (Option (S × C)) → RunStop → Type 0
IsOpeningFault {S} {C} state old new (stop.RackFault target) = (x y : S × C) → IsAt old target x → IsAt new target y → HasRisen (state x.0) (state y.0)
IsOpeningFault {S} {C} state old new other = Unit {0}

-- What calls say of the stores of so many targets, each of which is in its place again, with its clock: each runs on but where the run gives no
-- report by its fault, and it has no fewer free blocks, and as many where it keeps no entries.
pub record ArePartsCalled {S C T : Type 0} (durable : S → Option Durable) (state : S → State) (targets : ℕ) (result : Result T RunStop) (old new : List (Option (S × C))) : Type 0 where
  pub set : AreSet targets new
  pub clocks : ClocksStay old new
  pub runs : FromTo old new (λ t a b. Runs (is_fault_of t) result (state a) (state b) (durable a) (durable b))
  pub free : FromTo old new (λ t a b. (state a).free ≤ (state b).free)
  pub still : FromTo old new (λ t a b. OnOk result ((d : Durable) → durable a ≡ Some d → d.entries ≡ [] → (state b).free ≡ (state a).free))
