-- What the durable states of all targets stand for together. A family is the list of them, by the number of the target.
use Rattle.std.specs.Prelude.{ℕ, ◌+◌, ◌^◌, ◌≡◌, ◌==◌, Bool, true, false, ◌&&◌, ◌||◌, not, max, bit_and, nat_lt, List, [], ◌∷◌, ◌++◌, Option, Some, None, All, Contains, filter, map, slice_get, length, is_some}
use Rattle.std.specs.List.{list_any}
use Rattle.base_types.specs.declared.entry.Entry.{Entry}
use Rattle.base_types.specs.declared.id.AttemptId.{AttemptId}
use Rattle.base_types.specs.declared.id.ContId.{ContId}
use Rattle.base_types.specs.declared.snapshot.Snap.{Snap}
use Rattle.base_types.specs.Epochs.{restart_floor}
use Rattle.base_types.specs.Placement.{path_leader, path_members}
use Rattle.daos_model.specs.declared.cell.Cell.{Cell}
use Rattle.daos_model.specs.declared.cell.CellValue.{CellValue}
use Rattle.daos_model.specs.declared.durable.Durable.{Durable}
use Rattle.daos_model.specs.declared.durable.Version.{Version}
use Rattle.daos_model.specs.declared.stand.SnapMap.{SnapMap}
use Rattle.daos_model.specs.declared.stand.Stand.{Stand}
use Rattle.daos_model.specs.Cells.{value_at}
use Rattle.daos_model.specs.Durables.{entry_of}
use Rattle.daos_model.specs.Effect.{effects}
use Rattle.daos_model.specs.Versions.{version_path, writes_in}

-- ---- resolved attempts

-- a target holds an attempt
abbrev pub holds : AttemptId → Durable → Bool
holds x d = is_some (entry_of d x)

-- a target is among those of a bit field
abbrev pub is_in_field : ℕ → ℕ → Bool
is_in_field field t = not (bit_and field (2 ^ t) == 0)

-- the leader of an entry and all its members, of the targets from t on, hold its attempt
abbrev pub all_hold_from : ℕ → Entry → List Durable → Bool
all_hold_from t e [] = true
all_hold_from t e (d ∷ ds) = (holds e.attempt d || not (is_in_field e.members t || e.leader == t)) && all_hold_from (t + 1) e ds

-- an entry names targets of the family alone
abbrev pub is_within : List Durable → Entry → Bool
is_within F e = nat_lt e.leader (length F) && nat_lt e.members (2 ^ length F)

-- an entry is resolved: it is committed, or its leader and all its members hold the attempt
abbrev pub is_resolved_entry : List Durable → Option Entry → Bool
is_resolved_entry F None = false
is_resolved_entry F (Some e) = e.committed || (is_within F e && all_hold_from 0 e F)

-- an attempt is resolved where some target holds it committed, or its leader and all its members hold it prepared
unfoldable pub resolved : List Durable → AttemptId → Bool
resolved F x = list_any (λ d. is_resolved_entry F (entry_of d x)) F

-- ---- the maps of targets

-- a version counts where it is done, or its attempt is resolved
abbrev pub counts : List Durable → Version → Bool
counts F v = v.done || resolved F v.by

-- and below an epoch, where it lies below it too
abbrev pub counts_below : List Durable → ℕ → Version → Bool
counts_below F e v = counts F v && nat_lt v.epoch.0 e

-- and at a snapshot, where it lies below the snapshot's epoch and is of its container
abbrev pub counts_at : List Durable → Snap → Version → Bool
counts_at F s v = counts_below F s.epoch.0 v && ((version_path v).cont.0 == s.cont.0)

-- the map that those of a target's versions make that count, in order of epochs and numbers
abbrev pub map_where : (Version → Bool) → Durable → List CellValue
map_where p d = effects (writes_in (filter p d.versions)) []

-- a cell is read on the first member of its group
abbrev pub is_led_by : ℕ → ℕ → CellValue → Bool
is_led_by targets t v = path_leader v.cell.path targets == t

-- the maps of the targets from t on, each cell from the first member of its group
abbrev pub joined : ℕ → ℕ → (Version → Bool) → List Durable → List CellValue
joined targets t p [] = []
joined targets t p (d ∷ ds) = filter (is_led_by targets t) (map_where p d) ++ joined targets (t + 1) p ds

-- the map of a family, of the versions that count
abbrev pub family_map : (Version → Bool) → List Durable → List CellValue
family_map p F = joined (length F) 0 p F

-- ---- what a family stands for

abbrev pub is_in_cont : ContId → CellValue → Bool
is_in_cont c v = v.cell.path.cont.0 == c.0

-- a map's cells in a container
abbrev pub part_of : ContId → List CellValue → List CellValue
part_of c m = filter (is_in_cont c) m

abbrev pub is_created : Snap → Bool
is_created s = s.created

-- the snapshots that target 0 holds as created
abbrev pub created_snaps : List Durable → List Snap
created_snaps [] = []
created_snaps (d ∷ ds) = filter is_created d.snaps

-- the map of a snapshot: that of its container, of the versions below its epoch
abbrev pub snap_map : List Durable → Snap → SnapMap
snap_map F s = record { cont = s.cont; epoch = s.epoch; map = part_of s.cont (family_map (counts_below F s.epoch.0) F) }

-- what a family stands for: its map now, and that of each created snapshot
unfoldable pub stand : List Durable → Stand
stand F = record { now = family_map (counts F) F; snaps = map (snap_map F) (created_snaps F) }

-- ---- replicas

-- two targets of the group of a cell give it the same value
abbrev pub AgreeOn : List Durable → (Version → Bool) → Type 0
AgreeOn F p =
    (c : Cell) (t u : ℕ) (d e : Durable) → is_some c.path.dkey ≡ true → Contains (path_members c.path (length F)) t → Contains (path_members c.path (length F)) u
    → slice_get F t ≡ Some d → slice_get F u ≡ Some e → value_at (map_where p d) c ≡ value_at (map_where p e) c

-- the members of each group agree, now and at each created snapshot
pub record Agree (F : List Durable) : Type 0 where
  pub now : AgreeOn F (counts F)
  pub snaps : All (λ s. AgreeOn F (counts_at F s)) (created_snaps F)

-- ---- leases

abbrev pub greatest_lease : List Durable → ℕ
greatest_lease [] = 0
greatest_lease (d ∷ ds) = max d.lease (greatest_lease ds)

-- no epoch that a target of the family issued is above this one
abbrev pub top_of : List Durable → ℕ
top_of F = restart_floor (greatest_lease F)
