-- Calls of the stores of all targets.
use Rattle.std.specs.Prelude.{ℕ, ◌≡◌, ◌≤◌, ◌<◌, ◌==◌, Bool, true, false, List, [], filter, length, slice_get, slice_set, Option, Some, Result, OnOk, IfErr, if◌then◌else◌}
use Rattle.base_types.specs.declared.entry.Entry.{Entry}
use Rattle.base_types.specs.declared.script.Script.{Script}
use Rattle.base_types.specs.declared.snapshot.Snap.{Snap}
use Rattle.daos_model.specs.declared.durable.Durable.{Durable}
use Rattle.daos_model.specs.Family.{is_created}
use Rattle.target_parts.specs.Parts.{Runs}
use Rattle.target_parts.specs.declared.halt.Halt.{Halt}
use Rattle.target_parts.specs.declared.halt.Halt.TheVariants as halt
use Rattle.vos_store.specs.Calls.{State}
use Rattle.run_opening.specs.declared.stop.OpeningStop.{OpeningStop}
use Rattle.run_opening.specs.declared.stop.OpeningStop.TheVariants as stop
use Rattle.run_opening.specs.Steps.{AllCommitted, Goes, dropped, ended, forgotten, left_with, resolved_by, same}

-- ---- why an opening isn't whole

-- it is the fault of this target's store
abbrev pub is_fault_of : ℕ → OpeningStop → Bool
is_fault_of t (stop.Stopped target) = t == target
is_fault_of t stop.Memory = false

-- a target's part isn't done
abbrev pub stop_at : ℕ → Halt → OpeningStop
stop_at t halt.Stopped = stop.Stopped t
stop_at t halt.Memory = stop.Memory

abbrev pub wanting : OpeningStop
wanting = stop.Memory

-- ---- all stores

-- what holds between each target's store before and after, by the target's number
abbrev pub FromTo : {S : Type 0} → List S → List S → (ℕ → S → S → Type 0) → Type 0
FromTo {S} old new P = (t : ℕ) (x y : S) → slice_get old t ≡ Some x → slice_get new t ≡ Some y → P t x y

-- all stores run
abbrev pub AllRun : {S : Type 0} → (S → State) → List S → Type 0
AllRun {S} state stores = (t : ℕ) (x : S) → slice_get stores t ≡ Some x → (state x).stopped ≡ false

-- what the stores of the targets keep, in their order, where they tell it
pub record AreKept {S : Type 0} (durable : S → Option Durable) (stores : List S) (F : List Durable) : Type 0 where
  pub many : length F ≡ length stores
  pub each : (t : ℕ) (x : S) (d : Durable) → slice_get stores t ≡ Some x → slice_get F t ≡ Some d → durable x ≡ Some d

-- the next openings of the stores of the targets, in the order of their numbers, may find this
pub record MayBeFound {S : Type 0} (may : S → Durable → Type 0) (stores : List S) (F : List Durable) : Type 0 where
  pub many : length F ≡ length stores
  pub each : (t : ℕ) (x : S) (d : Durable) → slice_get stores t ≡ Some x → slice_get F t ≡ Some d → may x d

-- these are the entries that one target keeps
abbrev pub IsOwn : {S : Type 0} → (S → Option Durable) → List S → ℕ → List Entry → Type 0
IsOwn {S} durable stores t es = (x : S) (d : Durable) → slice_get stores t ≡ Some x → durable x ≡ Some d → es ≡ d.entries

-- and those that all targets keep
pub record AreEntries {S : Type 0} (durable : S → Option Durable) (stores : List S) (all : List (List Entry)) : Type 0 where
  pub many : length all ≡ length stores
  pub each : (t : ℕ) (es : List Entry) → slice_get all t ≡ Some es → IsOwn durable stores t es

-- all entries that one target keeps are committed
abbrev pub IsCommitted : {S : Type 0} → (S → Option Durable) → List S → ℕ → Type 0
IsCommitted {S} durable stores t = (x : S) (d : Durable) → slice_get stores t ≡ Some x → durable x ≡ Some d → AllCommitted d

-- and all that they keep
abbrev pub EachCommitted : {S : Type 0} → (S → Option Durable) → List S → Type 0
EachCommitted {S} durable stores = (t : ℕ) → IsCommitted durable stores t

-- a change at one target alone
abbrev pub only : ℕ → (Durable → Durable) → ℕ → Durable → Durable
only t change u = if u == t then change else same

-- the same change at each target
abbrev pub alike : (Durable → Durable) → ℕ → Durable → Durable
alike change t = change

-- Calls of one target's store, by its number: they make a change of what it keeps, as `Goes` says, and name the target where the store
-- stopped. The other stores are as they were.
pub record GoesAt {S T : Type 0} (durable : S → Option Durable) (state : S → State) (t : ℕ) (change : Durable → Durable) (result : Result T OpeningStop) (old new : List S) : Type 0 where
  pub store : S
  pub set : new ≡ slice_set old t store
  pub goes : (x : S) → slice_get old t ≡ Some x → Goes (is_fault_of t) change result (state x) (state store) (durable x) (durable store)
  pub own : (u : ℕ) → IfErr result (λ stop. is_fault_of u stop ≡ true → u ≡ t)

-- Calls of all stores: each makes its change, and a store that stopped is named by its target.
pub record GoesAll {S T : Type 0} (durable : S → Option Durable) (state : S → State) (changes : ℕ → Durable → Durable) (result : Result T OpeningStop) (old new : List S) : Type 0 where
  pub many : length new ≡ length old
  pub each : FromTo old new (λ t x y. Goes (is_fault_of t) (changes t) result (state x) (state y) (durable x) (durable y))
  pub own : (t : ℕ) → IfErr result (λ stop. is_fault_of t stop ≡ true → t < length old)

-- What every call says of all stores: each runs on but where the opening isn't whole by its fault, and it has no fewer free blocks, and as
-- many where it keeps no entries; a store that stopped is named by its target.
pub record RunAll {S T : Type 0} (durable : S → Option Durable) (state : S → State) (result : Result T OpeningStop) (old new : List S) : Type 0 where
  pub many : length new ≡ length old
  pub each : FromTo old new (λ t x y. Runs (is_fault_of t) result (state x) (state y) (durable x) (durable y))
  pub free : FromTo old new (λ t x y. (state x).free ≤ (state y).free)
  pub still : FromTo old new (λ t x y. OnOk result ((d : Durable) → durable x ≡ Some d → d.entries ≡ [] → (state y).free ≡ (state x).free))
  pub own : (t : ℕ) → IfErr result (λ stop. is_fault_of t stop ≡ true → t < length old)

-- ---- the parts of an opening

-- Attempts are ended: each is settled everywhere by the entries of all targets, and then the entries are forgotten.
pub record EndsAll {S T : Type 0} (durable : S → Option Durable) (state : S → State) (result : Result T OpeningStop) (old new : List S) : Type 0 where
  pub all : List (List Entry)
  pub entries : OnOk result (AreEntries durable old all)
  pub goes : GoesAll durable state (alike (λ d. forgotten (ended (resolved_by all) d))) result old new

-- these are the snapshots that a target holds as created
abbrev pub AreCreated : {S : Type 0} → (S → Option Durable) → (Durable → Durable) → List S → ℕ → List Snap → Type 0
AreCreated {S} durable change stores t xs = (x : S) (d : Durable) → slice_get stores t ≡ Some x → durable x ≡ Some d → xs ≡ filter is_created (change d).snaps

-- Snapshots are dropped: at target 0 those that a script drops, and then at all targets those that target 0 doesn't hold as created.
pub record DropsAll {S T : Type 0} (durable : S → Option Durable) (state : S → State) (script : Script) (result : Result T OpeningStop) (old new : List S) : Type 0 where
  pub created : List Snap
  pub holds : OnOk result (AreCreated durable (dropped script) old 0 created)
  pub goes : GoesAll durable state (λ t d. left_with created (only 0 (dropped script) t d)) result old new
