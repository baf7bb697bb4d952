-- What calls for an opening say of the stores of all targets.
use Rattle.std.specs.Prelude.{ℕ, ◌≡◌, ◌≤◌, ◌<◌, true, List, [], length, slice_get, slice_set, Option, Some, Result, IfErr, OnOk}
use Rattle.std.specs.Option.{ForSome, option_map}
use Rattle.base_types.specs.declared.id.ContId.{ContId}
use Rattle.base_types.specs.Epochs.{restart_floor}
use Rattle.daos_model.specs.declared.durable.Durable.{Durable}
use Rattle.daos_model.specs.Changes.{enlisted}
use Rattle.run_opening.specs.All.{FromTo}
use Rattle.run_opening.specs.target_parts.Parts.{Runs}
use Rattle.vos_store.specs.Calls.{State}
use Rattle.run_starts.specs.declared.stop.StartStop.{StartStop}
use Rattle.run_starts.specs.declared.stop.StartStop.TheVariants as stop
use Rattle.run_starts.specs.Stops.{is_fault_of}

-- What every call says of all stores: each runs on but where they aren't opened by its fault, and it has no fewer free blocks, and as many
-- where it keeps no entries; a store that stopped is named by its target.
pub record RunAll {S T : Type 0} (durable : S → Option Durable) (state : S → State) (result : Result T StartStop) (old new : List S) : Type 0 where
  pub many : length new ≡ length old
  pub each : FromTo old new (λ t x y. Runs (is_fault_of t) result (state x) (state y) (durable x) (durable y))
  pub free : FromTo old new (λ t x y. (state x).free ≤ (state y).free)
  pub still : FromTo old new (λ t x y. OnOk result ((d : Durable) → durable x ≡ Some d → d.entries ≡ [] → (state y).free ≡ (state x).free))
  pub own : (t : ℕ) → IfErr result (λ stop. is_fault_of t stop ≡ true → t < length old)

-- ---- containers

-- with containers that are added these are so many, of which a store has no more than 256
abbrev pub AreFewWith : List ContId → Durable → Type 0
AreFewWith cs d = length (enlisted cs d).conts ≤ 256

-- a store to which containers were added, and for which there was a place
pub record WithContainers {S : Type 0} (durable : S → Option Durable) (cs : List ContId) (old new : S) : Type 0 where
  pub made : durable new ≡ option_map (enlisted cs) (durable old)
  pub few : ForSome (durable old) (AreFewWith cs)

-- so many are the containers of the store of a target with those that are added, where it tells them, and more than 256
pub record AreTooMany {S : Type 0} (durable : S → Option Durable) (cs : List ContId) (stores : List S) (target together : ℕ) : Type 0 where
  pub many : 256 < together
  pub told : (x : S) (d : Durable) → slice_get stores target ≡ Some x → durable x ≡ Some d → together ≡ length (enlisted cs d).conts

-- Why stores aren't opened: the store of one of them stopped; its containers, with those that are added, are more than it has places for;
-- or memory was wanting.
abbrev pub WhyNotOpened : {S : Type 0} → (S → Option Durable) → List ContId → List S → StartStop → Type 0
WhyNotOpened {S} durable cs stores (stop.Stopped target) = target < length stores
WhyNotOpened {S} durable cs stores (stop.TooMany target together) = (target < length stores) × AreTooMany durable cs stores target together
WhyNotOpened {S} durable cs stores stop.Memory = Unit {0}

-- Containers are added to one target's store, by its number. The other stores are as they were. Why they aren't added holds of any stores
-- among which that one stands there.
pub record EnlistsAt {S : Type 0} (durable : S → Option Durable) (state : S → State) (cs : List ContId) (t : ℕ) (result : Result (Unit {0}) StartStop) (old new : List S) : Type 0 where
  pub store : S
  pub set : new ≡ slice_set old t store
  pub runs : (x : S) → slice_get old t ≡ Some x → Runs (is_fault_of t) result (state x) (state store) (durable x) (durable store)
  pub free : (x : S) → slice_get old t ≡ Some x → (state store).free ≡ (state x).free
  pub made : OnOk result ((x : S) → slice_get old t ≡ Some x → WithContainers durable cs x store)
  pub own : (u : ℕ) → IfErr result (λ stop. is_fault_of u stop ≡ true → u ≡ t)
  pub why : (stores : List S) → slice_get stores t ≡ slice_get old t → t < length stores → IfErr result (WhyNotOpened durable cs stores)

-- ---- leases

-- no floor of an opening is above what a lease covers
abbrev pub AreCovered : {S : Type 0} → (S → State) → List S → ℕ → Type 0
AreCovered {S} state stores lease = (t : ℕ) (x : S) → slice_get stores t ≡ Some x → (state x).opening.0.0 ≤ restart_floor lease
