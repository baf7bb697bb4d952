-- What the opening of a run makes of what all targets keep.
use Rattle.std.specs.Prelude.{ℕ, ◌≡◌, ◌≤◌, Bool, true, Contains, List, [], filter, map, slice_get, Some}
use Rattle.std.specs.List.{list_any}
use Rattle.base_types.specs.declared.id.ContId.{ContId}
use Rattle.base_types.specs.declared.script.Script.{Script}
use Rattle.base_types.specs.declared.snapshot.Snap.{Snap}
use Rattle.daos_model.specs.declared.durable.Durable.{Durable}
use Rattle.daos_model.specs.declared.durable.Version.{Version}
use Rattle.daos_model.specs.declared.stand.SnapMap.{SnapMap}
use Rattle.daos_model.specs.Changes.{enlisted}
use Rattle.daos_model.specs.Durables.{IsInForm, is_snap_at, row_of}
use Rattle.daos_model.specs.Family.{counts, created_snaps}
use Rattle.daos_model.specs.Opening.{is_kept}

-- ---- attempts

-- a version is done
abbrev pub as_done : Version → Version
as_done v = record v { done = true }

-- once each attempt is settled: the versions that count are done, and the others are gone
abbrev pub settled_versions : List Durable → List Version → List Version
settled_versions F vs = map as_done (filter (counts F) vs)

-- ---- snapshots

-- the name of a snapshot: its container and its epoch
abbrev pub named : Snap → SnapMap
named x = record { cont = x.cont; epoch = x.epoch; map = [] }

-- a script keeps a snapshot: it drops it by no name
abbrev pub keeps : Script → Snap → Bool
keeps s x = is_kept s (named x)

-- the snapshots that last over the opening: those that target 0 holds as created, and that the script keeps
abbrev pub lasting_snaps : Script → List Durable → List Snap
lasting_snaps s F = filter (keeps s) (created_snaps F)

abbrev pub is_at_one_of : List Snap → Snap → Bool
is_at_one_of xs x = list_any (is_snap_at x.cont x.epoch) xs

-- ---- what a target keeps

-- What a target keeps after the opening: its versions, once each attempt is settled; no entries; and of its frozen snapshots those that
-- last. Its containers, floors, lease and incarnation stay.
unfoldable pub opened : Script → List Durable → Durable → Durable
opened s F d = record d {
  versions = settled_versions F d.versions;
  entries = [];
  snaps = filter (is_at_one_of (lasting_snaps s F)) d.snaps;
}

-- what all targets keep then
abbrev pub opened_family : Script → List Durable → List Durable
opened_family s F = map (opened s F) F

-- ---- what is opened

-- each of them is in form, as what a store tells that runs
abbrev pub AreInForm : List Durable → Type 0
AreInForm F = (t : ℕ) (d : Durable) → slice_get F t ≡ Some d → IsInForm d

-- each snapshot that is frozen at a target lies at or below the floor of its container, so that no write at or below it is stored any more
abbrev pub IsFloored : Durable → Type 0
IsFloored d = (x : Snap) → Contains d.snaps x → x.epoch.0 ≤ (row_of d x.cont).floor.0

-- so it is at all targets
abbrev pub AreFloored : List Durable → Type 0
AreFloored F = (t : ℕ) (d : Durable) → slice_get F t ≡ Some d → IsFloored d

-- what all targets keep once containers are enlisted at each
abbrev pub enlisted_family : List ContId → List Durable → List Durable
enlisted_family cs F = map (enlisted cs) F
