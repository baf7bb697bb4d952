-- What a run begins with.
use Rattle.std.specs.Prelude.{ℕ, ◌-◌, ◌*◌, ◌==◌, Bool, true, false, not, ◌&&◌, List, [], ◌∷◌, filter, Option, Some, None, if◌then◌else◌}
use Rattle.std.specs.List.{list_any}
use Rattle.base_types.specs.declared.id.ContId.{ContId}
use Rattle.base_types.specs.declared.job.Job.{Job}
use Rattle.base_types.specs.declared.script.OldDecl.{OldDecl}
use Rattle.base_types.specs.declared.script.Script.{Script}
use Rattle.base_types.specs.Epochs.{restart_floor}
use Rattle.base_types.specs.Keys.{same_key}
use Rattle.daos_model.specs.declared.cell.CellValue.{CellValue}
use Rattle.daos_model.specs.declared.stand.SnapMap.{SnapMap}
use Rattle.daos_model.specs.declared.stand.Stand.{Stand}
use Rattle.daos_model.specs.AsOf.{empty_stand}

-- what the regions stand for when a run begins, the greatest of their leases, and how many blocks are free on each target
pub record Opening : Type 0 where
  pub stand : Stand
  pub lease : ℕ
  pub free : ℕ → ℕ

-- no epoch of before the run is above this one
abbrev pub top : Opening → ℕ
top o = restart_floor o.lease

-- what a run is given: a script, the words' job, and what the regions hold
pub record Given : Type 0 where
  pub script : Script
  pub job : Job
  pub opening : Opening

-- regions of zeros, each of so many MiB: they stand for nothing, and all blocks but those of the layout's own are free
abbrev pub fresh_opening : ℕ → Opening
fresh_opening size = record { stand = empty_stand; lease = 0; free = λ t. size * 4096 - 1264 }

-- a run over regions of zeros
abbrev pub fresh : Script → Job → Given
fresh s j = record { script = s; job = j; opening = fresh_opening j.size_mib }

-- what the outside did to the targets' regions in a run: how often it failed each (none where that count stands at its end),
-- whether a target read foreign bytes when it opened again, and whether the region kept what was written
pub record Outside : Type 0 where
  pub rises : ℕ → Option ℕ
  pub foreign : ℕ → Bool
  pub keeps : ℕ → Bool

-- the map that is kept of a created snapshot, if there is one
abbrev pub kept_map : ContId → ℕ → List SnapMap → Option (List CellValue)
kept_map c e [] = None
kept_map c e (k ∷ ks) = if (k.cont.0 == c.0) && (k.epoch.0 == e) then Some k.map else kept_map c e ks

-- a line of a script that declares a snapshot of an earlier run names this one, and a line drops that name
abbrev pub drops_by : List (List ℕ) → SnapMap → OldDecl → Bool
drops_by drops k d = (d.cont.0 == k.cont.0) && (d.epoch.0 == k.epoch.0) && list_any (same_key d.name) drops

-- a script keeps a snapshot: it drops it by no name
abbrev pub is_kept : Script → SnapMap → Bool
is_kept s k = not (list_any (drops_by s.drops k) s.olds)

-- what the regions stood for, without the snapshots that a script drops
abbrev pub kept : Script → Stand → Stand
kept s b = record { now = b.now; snaps = filter (is_kept s) b.snaps }

-- the outside failed no region
abbrev pub undisturbed : Outside
undisturbed = record { rises = λ t. Some 0; foreign = λ t. false; keeps = λ t. true }
