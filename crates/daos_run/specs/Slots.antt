-- The stores and the clocks that a run is given and hands back.
use Rattle.std.specs.Prelude.{ℕ, ◌≡◌, ◌≤◌, ◌<◌, true, false, List, [], ◌∷◌, length, slice_get, slice_set, Option, Some, None}
use Rattle.daos_model.specs.declared.durable.Durable.{Durable}
use Rattle.run_targets.specs.Below.{IsServed, TargetOf}
use Rattle.run_starts.specs.target_parts.Readings.{IsReadOn}
use Rattle.vos_store.specs.Calls.{SetsFuse, State}

-- the target of a number has a store and a clock
abbrev pub IsAt : {S C : Type 0} → List (Option (S × C)) → ℕ → S × C → Type 0
IsAt slots t x = slice_get slots t ≡ Some (Some x)

-- each of so many targets has
pub record AreSet {S C : Type 0} (targets : ℕ) (slots : List (Option (S × C))) : Type 0 where
  pub many : length slots ≡ targets
  pub each : (t : ℕ) → t < targets → (x : S × C) × IsAt slots t x

-- what holds of each target's store, by the target's number
abbrev pub EachStore : {S C : Type 0} → (ℕ → S → Type 0) → List (Option (S × C)) → Type 0
EachStore {S} {C} P slots = (t : ℕ) (x : S × C) → IsAt slots t x → P t x.0

-- what holds of each target's clock, by the target's number
abbrev pub EachClock : {S C : Type 0} → (ℕ → C → Type 0) → List (Option (S × C)) → Type 0
EachClock {S} {C} P slots = (t : ℕ) (x : S × C) → IsAt slots t x → P t x.1

-- each of so many targets has a store, which is so, and a clock
pub record HaveStores {S C : Type 0} (P : ℕ → S → Type 0) (targets : ℕ) (slots : List (Option (S × C))) : Type 0 where
  pub set : AreSet targets slots
  pub each : EachStore P slots

-- the stores of the targets, in the order of their numbers
abbrev pub stores_in : {S C : Type 0} → List (Option (S × C)) → List S
stores_in [] = []
stores_in (None ∷ slots) = stores_in slots
stores_in (Some x ∷ slots) = x.0 ∷ stores_in slots

-- what holds between each target's store before and after
abbrev pub FromTo : {S C : Type 0} → List (Option (S × C)) → List (Option (S × C)) → (ℕ → S → S → Type 0) → Type 0
FromTo {S} {C} old new P = (t : ℕ) (x y : S × C) → IsAt old t x → IsAt new t y → P t x.0 y.0

-- each clock is at its place as it was
abbrev pub ClocksStay : {S C : Type 0} → List (Option (S × C)) → List (Option (S × C)) → Type 0
ClocksStay {S} {C} old new = (t : ℕ) (x y : S × C) → IsAt old t x → IsAt new t y → y.1 ≡ x.1

-- the clock at each place is the one that was given there, after so many readings
abbrev pub ClocksAreRead : {S C : Type 0} → (C → C → Type 0) → List (Option (S × C)) → List (Option (S × C)) → Type 0
ClocksAreRead {S} {C} is_read old new = (t : ℕ) (x y : S × C) → IsAt old t x → IsAt new t y → IsReadOn is_read x.1 y.1

-- the clocks at the place of a target, before a run and after it
pub record AreClocksIn {S C : Type 0} (old new : List (Option (S × C))) (t : ℕ) (c d : C) : Type 0 where
  pub before : S × C
  pub after : S × C
  pub at : IsAt old t before
  pub there : IsAt new t after
  pub first : c ≡ before.1
  pub last : d ≡ after.1

-- at least so many blocks are free on each target
abbrev pub AreFree : {S C : Type 0} → (S → State) → List (Option (S × C)) → (ℕ → ℕ) → Type 0
AreFree state slots free = EachStore (λ t store. free t ≤ (state store).free) slots

-- between these two moments each store had calls
abbrev pub StoresAreServed : {S C : Type 0} → (S → Option Durable) → (S → State) → List (Option (S × C)) → List (Option (S × C)) → Type 0
StoresAreServed durable state old new = FromTo old new (λ t a b. IsServed (state a) (state b) (durable a) (durable b))

-- no fuse is set any more, where that is told
abbrev pub FusesAreGone : {S C : Type 0} → (S → State) → List (Option (S × C)) → Type 0
FusesAreGone state slots = EachStore (λ t store. (state store).tells_fuse ≡ true → (state store).fused ≡ false) slots

-- ---- fuses

-- a store's fuse was taken away; nothing else of it changed
pub record HasNoFuse {S : Type 0} (durable : S → Option Durable) (state : S → State) (may : S → Durable → Type 0) (old new : S) : Type 0 where
  pub state_is : SetsFuse 0 (state old) (state new)
  pub kept : durable new ≡ durable old
  pub left : (d : Durable) → may new d → may old d

-- so it was of the store in one place
pub record IsDisarmed {S C : Type 0} (durable : S → Option Durable) (state : S → State) (may : S → Durable → Type 0) (t : ℕ) (x : S × C) (old new : List (Option (S × C))) : Type 0 where
  pub store : S
  pub fuse : HasNoFuse durable state may x.0 store
  pub after : new ≡ slice_set old t (Some (store, x.1))

-- ---- places while targets run

-- the stores and the clocks of the first targets were taken, and those of the others are as they were
pub record AreTaken {T : Type 0} (n : ℕ) (old slots : List (Option T)) : Type 0 where
  pub many : length slots ≡ length old
  pub taken : (t : ℕ) → t < n → t < length old → slice_get slots t ≡ Some None
  pub left : (t : ℕ) → n ≤ t → slice_get slots t ≡ slice_get old t

-- the stores and the clocks of targets are in their places again, and the other places are as they were
pub record AreBack {S C : Type 0} (xs : List (TargetOf S C)) (old slots : List (Option (S × C))) : Type 0 where
  pub many : length slots ≡ length old
  pub back : (t : ℕ) (x : TargetOf S C) → slice_get xs t ≡ Some x → IsAt slots t (x.store, x.clock)
  pub left : (t : ℕ) → length xs ≤ t → slice_get slots t ≡ slice_get old t

-- the stores and the clocks of so many targets, in the order of their numbers
pub record AreApart {S C : Type 0} (targets : ℕ) (slots : List (Option (S × C))) (stores : List S) (clocks : List C) : Type 0 where
  pub many_stores : length stores ≡ targets
  pub many_clocks : length clocks ≡ targets
  pub each : (t : ℕ) (x : S × C) → IsAt slots t x → (slice_get stores t ≡ Some x.0) × (slice_get clocks t ≡ Some x.1)

-- stores and clocks are in their places again
pub record AreSetBack {S C : Type 0} (stores : List S) (clocks : List C) (old slots : List (Option (S × C))) : Type 0 where
  pub many : length slots ≡ length old
  pub back : (t : ℕ) (store : S) (clock : C) → slice_get stores t ≡ Some store → slice_get clocks t ≡ Some clock → IsAt slots t (store, clock)

-- all stores and clocks are in their places, as they were
pub record AreAsBefore {S C : Type 0} (targets : ℕ) (old new : List (Option (S × C))) : Type 0 where
  pub set : AreSet targets new
  pub same : (t : ℕ) (x : S × C) → IsAt old t x → IsAt new t x
