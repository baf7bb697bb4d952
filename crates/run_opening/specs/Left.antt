-- What an opening that is cut leaves.
use Rattle.std.specs.Prelude.{ℕ, zero, suc, ◌≡◌, ◌⊎◌, ◌==◌, Bool, List, filter, length, slice_get, take, Option, Some, if◌then◌else◌}
use Rattle.base_types.specs.declared.entry.Entry.{Entry}
use Rattle.base_types.specs.declared.id.AttemptId.{AttemptId}
use Rattle.base_types.specs.declared.script.Script.{Script}
use Rattle.base_types.specs.declared.snapshot.Snap.{Snap}
use Rattle.daos_model.specs.declared.durable.Durable.{Durable}
use Rattle.daos_model.specs.Family.{created_snaps, snap_map, stand}
use Rattle.daos_model.specs.Sound.{Sound}
use Rattle.model_laws.specs.Members.{Has}
use Rattle.run_opening.specs.All.{AreCreated, AreEntries, FromTo, only}
use Rattle.run_opening.specs.Opened.{AreFloored, lasting_snaps}
use Rattle.run_opening.specs.Steps.{all_ended, all_forgotten, all_thawed, dropped, ended, is_dropped, is_other_than, resolved_by}

-- ---- what is left

-- A target was opened as often as before, with the same lease.
pub record StaysCounted (d g : Durable) : Type 0 where
  pub lease : g.lease ≡ d.lease
  pub incarnation : g.incarnation ≡ d.incarnation

-- What an opening for a script leaves of what all targets keep, wherever it is cut. It is sound, and stands for the same now; each frozen snapshot lies
-- at or below its floor, where so it was before. Each snapshot that target 0 holds as created then it held before, with the same map; and those that
-- last over the whole opening it still holds. Leases and incarnations stay.
pub record IsLeftOf (s : Script) (F G : List Durable) : Type 0 where
  pub sound : Sound G
  pub floored : AreFloored F → AreFloored G
  pub now : (stand G).now ≡ (stand F).now
  pub snaps : (x : Snap) → Has x (created_snaps G) → Has x (created_snaps F) × (snap_map G x ≡ snap_map F x)
  pub lasting : (x : Snap) → Has x (lasting_snaps s F) → Has x (created_snaps G)
  pub many : length G ≡ length F
  pub each : (t : ℕ) (d g : Durable) → slice_get F t ≡ Some d → slice_get G t ≡ Some g → StaysCounted d g

-- ---- parts of a change

-- a change, or nothing
abbrev pub or_not : (Durable → Durable) → ℕ → Durable → Durable
or_not change zero d = d
or_not change (suc n) d = change d

-- nothing
abbrev pub nothing : ℕ → Durable → Durable
nothing n d = d

-- the attempts of the first entries are settled
abbrev pub first_ended : (AttemptId → Bool) → ℕ → Durable → Durable
first_ended is_resolved n d = all_ended is_resolved (take n d.entries) d

-- the first entries are forgotten
abbrev pub first_forgotten : ℕ → Durable → Durable
first_forgotten n d = all_forgotten (take n d.entries) d

-- the first ones of some snapshots are thawed
abbrev pub first_thawed : List Snap → ℕ → Durable → Durable
first_thawed xs n d = all_thawed (take n xs) d

-- the first snapshots go that a script drops
abbrev pub first_dropped : Script → ℕ → Durable → Durable
first_dropped s n d = first_thawed (filter (is_dropped s) d.snaps) n d

-- the first snapshots go that are none of some
abbrev pub first_left_with : List Snap → ℕ → Durable → Durable
first_left_with xs n d = first_thawed (filter (is_other_than xs) d.snaps) n d

-- parts at one target alone
abbrev pub only_parts : ℕ → (ℕ → Durable → Durable) → ℕ → ℕ → Durable → Durable
only_parts t parts u = if u == t then parts else nothing

-- ---- families

-- Each target of a family keeps a part of a change of what its like kept.
pub record AreParts (parts : ℕ → ℕ → Durable → Durable) (F G : List Durable) : Type 0 where
  pub many : length G ≡ length F
  pub each : (t : ℕ) (d g : Durable) → slice_get F t ≡ Some d → slice_get G t ≡ Some g → (n : ℕ) × (g ≡ parts t n d)

-- ---- stores

-- Whatever the next opening of a store finds comes of what it kept by a part of a change.
abbrev pub Leaves : {S : Type 0} → (S → Option Durable) → (S → Durable → Type 0) → (ℕ → Durable → Durable) → S → S → Type 0
Leaves {S} durable may parts old new = (d x : Durable) → durable old ≡ Some d → may new x → (n : ℕ) × (x ≡ parts n d)

-- so it is of one target's store, by its number
abbrev pub LeavesAt : {S : Type 0} → (S → Option Durable) → (S → Durable → Type 0) → ℕ → (ℕ → Durable → Durable) → List S → List S → Type 0
LeavesAt {S} durable may t parts old new = (x y : S) → slice_get old t ≡ Some x → slice_get new t ≡ Some y → Leaves durable may parts x y

-- and of each target's
abbrev pub LeavesAll : {S : Type 0} → (S → Option Durable) → (S → Durable → Type 0) → (ℕ → ℕ → Durable → Durable) → List S → List S → Type 0
LeavesAll {S} durable may parts old new = FromTo old new (λ t x y. Leaves durable may (parts t) x y)

-- ---- the parts of an opening

-- Entries were read at all targets. Then the attempts of some first ones were settled at each; or all were, and some first entries are forgotten.
pub record EndsSome {S : Type 0} (durable : S → Option Durable) (may : S → Durable → Type 0) (old new : List S) : Type 0 where
  pub all : List (List Entry)
  pub entries : AreEntries durable old all
  pub left : LeavesAll durable may (λ t. first_ended (resolved_by all)) old new ⊎ LeavesAll durable may (λ t n d. first_forgotten n (ended (resolved_by all) d)) old new

-- nothing was changed, or attempts were ended, all or some
abbrev pub EndsPartly : {S : Type 0} → (S → Option Durable) → (S → Durable → Type 0) → List S → List S → Type 0
EndsPartly {S} durable may old new = LeavesAll durable may (λ t. nothing) old new ⊎ EndsSome durable may old new

-- Target 0 dropped what the script drops; then some first snapshots went at each target that target 0 doesn't hold as created.
pub record DropsSome {S : Type 0} (durable : S → Option Durable) (may : S → Durable → Type 0) (s : Script) (old new : List S) : Type 0 where
  pub created : List Snap
  pub holds : AreCreated durable (dropped s) old 0 created
  pub left : LeavesAll durable may (λ t n d. first_left_with created n (only 0 (dropped s) t d)) old new

-- target 0 dropped some first snapshots that the script drops, or snapshots were dropped, all or some
abbrev pub DropsPartly : {S : Type 0} → (S → Option Durable) → (S → Durable → Type 0) → Script → List S → List S → Type 0
DropsPartly {S} durable may s old new = LeavesAll durable may (only_parts 0 (first_dropped s)) old new ⊎ DropsSome durable may s old new
