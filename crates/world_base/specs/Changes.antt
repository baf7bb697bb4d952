-- The changes that a target makes of what it keeps.
use Rattle.std.specs.Prelude.{ℕ, ◌+◌, ◌≡◌, ◌≤◌, Bool, true, false, List, Option, Some, None}
use Rattle.base_types.specs.declared.entry.Entry.{Entry}
use Rattle.base_types.specs.declared.entry.Settle.{Settle}
use Rattle.base_types.specs.declared.id.AttemptId.{AttemptId}
use Rattle.base_types.specs.declared.operation.MinorWrite.{MinorWrite}
use Rattle.daos_model.specs.declared.durable.Durable.{Durable}
use Rattle.daos_model.specs.Blocks.{blocks}
use Rattle.base_types.specs.declared.epoch.Epoch.{Epoch}
use Rattle.base_types.specs.declared.id.ContId.{ContId}
use Rattle.daos_model.specs.Changes.{created, frozen, leased, marked, prepared, pruned, settled, with_versions}
use Rattle.daos_model.specs.Prunes.{Partly, is_going}
use Rattle.daos_model.specs.declared.durable.Version.{Version}

-- the lease is extended, an entry is stored with its writes, an attempt goes a step on, a snapshot is frozen or created, or a
-- container is aggregated up to an epoch, by the aggregation of a number
pub data Change : Type 0 where
  Extends : (ticks : ℕ) → Change
  Prepares : (e : Entry) (ws : List MinorWrite) → Change
  Settles : (a : AttemptId) (step : Settle) → Change
  Freezes : (c : ContId) (s : Epoch) → Change
  Creates : (c : ContId) (s : Epoch) → Change
  Prunes : (c : ContId) (upto : Epoch) (n : ℕ) → Change

-- what a change makes of what is kept
abbrev pub made : Change → Durable → Durable
made (Extends ticks) d = leased ticks d
made (Prepares e ws) d = prepared e ws d
made (Settles a step) d = settled a step d
made (Freezes c s) d = frozen c s d
made (Creates c s) d = created c s d
made (Prunes c upto n) d = pruned c upto n d

-- how many free blocks a change may take
abbrev pub cost : Change → ℕ
cost (Prepares e ws) = blocks ws
cost c = 0

-- a change that leaves containers and snapshots as they are
abbrev pub is_plain : Change → Bool
is_plain (Extends ticks) = true
is_plain (Prepares e ws) = true
is_plain (Settles a step) = true
is_plain (Freezes c s) = false
is_plain (Creates c s) = false
is_plain (Prunes c upto n) = false

abbrev pub IsPlainly : Option Change → Type 0
IsPlainly None = Unit {0}
IsPlainly (Some c) = is_plain c ≡ true

-- what a target keeps, and its free blocks
pub record Kept : Type 0 where
  pub durable : Durable
  pub free : ℕ

-- a step makes a change or none; it takes no more blocks than its cost
abbrev pub Steps : Option Change → Kept → Kept → Type 0
Steps None k l = l ≡ k
Steps (Some c) k l = (l.durable ≡ made c k.durable) × (k.free ≤ l.free + cost c)

-- a prune that was cut has raised the aggregated-to epoch and the floor; some, all or none of its versions are gone
abbrev pub IsPartly : Change → Durable → Durable → Type 0
IsPartly (Prunes c upto n) d x = (vs : List Version) × Partly d.versions (is_going c upto d.versions d.snaps) vs × (x ≡ with_versions vs (marked c upto n d))
IsPartly c d x = ⊥

-- what stands where a change was cut: all as before it, or all as after it; or of a prune a part
pub data Cut (c : Change) (d : Durable) (x : Durable) : Type 0 where
  Before : x ≡ d → Cut c d x
  After : x ≡ made c d → Cut c d x
  InPart : IsPartly c d x → Cut c d x

-- a change of what is kept was cut, and has cost its blocks at most
abbrev pub IsCut : Change → Kept → Kept → Type 0
IsCut c k x = Cut c k.durable x.durable × (k.free ≤ x.free + cost c)

-- a question was cut, which changes nothing
abbrev pub IsAskedAlone : Kept → Kept → Type 0
IsAskedAlone k x = (x.durable ≡ k.durable) × (k.free ≤ x.free)
