-- What the regions stand for in the end.
use Rattle.std.specs.Prelude.{ℕ, ◌≡◌, ◌^◌, ◌⊎◌, true, List, Option, Some, None, All, Any, is_some}
use Rattle.base_types.specs.declared.epoch.Epoch.{Epoch}
use Rattle.base_types.specs.declared.id.ContId.{ContId}
use Rattle.base_types.specs.declared.outcome.Outcome.TheVariants as outcome
use Rattle.base_types.specs.declared.report.Attempt.{Attempt}
use Rattle.base_types.specs.declared.report.Report.{Report}
use Rattle.base_types.specs.declared.script.Script.{Script}
use Rattle.daos_model.specs.declared.cell.Cell.{Cell}
use Rattle.daos_model.specs.declared.cell.CellValue.{CellValue}
use Rattle.daos_model.specs.declared.durable.Durable.{Durable}
use Rattle.daos_model.specs.declared.stand.SnapMap.{SnapMap}
use Rattle.daos_model.specs.declared.stand.Stand.{Stand}
use Rattle.daos_model.specs.declared.stand.Taken.{Taken}
use Rattle.daos_model.specs.AsOf.{as_of}
use Rattle.daos_model.specs.Attempts.{is_unsure, tries}
use Rattle.daos_model.specs.Cells.{value_at}
use Rattle.daos_model.specs.Family.{Agree, greatest_lease, part_of, resolved, stand}
use Rattle.daos_model.specs.Headline.{Headline}
use Rattle.daos_model.specs.Opening.{Given, Opening, Outside, kept, kept_map}
use Rattle.daos_model.specs.Snapshots.{MakesSnapshotAt}
use Rattle.daos_model.specs.TookEffect.{took}

-- two maps hold the same at every cell
abbrev pub SameMap : List CellValue → List CellValue → Type 0
SameMap m n = (c : Cell) → value_at m c ≡ value_at n c

abbrev pub IsSameAs : List CellValue → Option (List CellValue) → Type 0
IsSameAs m None = ⊥
IsSameAs m (Some n) = SameMap m n

-- a snapshot is kept among others, with the same map
abbrev pub IsKeptIn : List SnapMap → SnapMap → Type 0
IsKeptIn kept k = IsSameAs k.map (kept_map k.cont k.epoch.0 kept)

-- an attempt made a snapshot: it is committed, or its client may not have heard what became of it
abbrev pub MayHaveMade : Script → SnapMap → Attempt → Type 0
MayHaveMade s k a = MakesSnapshotAt s k.cont k.epoch a × ((a.outcome ≡ outcome.Committed) ⊎ (is_unsure a ≡ true))

-- a snapshot of this run: its container's map as of its epoch, made by an attempt
pub record IsNewSnapshot (s : Script) (opening : Stand) (T : List Taken) (attempts : List Attempt) (k : SnapMap) : Type 0 where
  pub map : SameMap k.map (part_of k.cont (as_of opening T k.epoch.0))
  pub made : Any (MayHaveMade s k) attempts

-- a committed snapshot is kept
abbrev pub IsKept : Script → List SnapMap → Attempt → Type 0
IsKept s kept a =
    (cont : ContId) (epoch : Epoch) → MakesSnapshotAt s cont epoch a → a.outcome ≡ outcome.Committed → is_some (kept_map cont epoch.0 kept) ≡ true

-- the snapshots in the end are those of the opening, and new ones
pub record SnapsInTheEnd (s : Script) (opening : Stand) (T : List Taken) (attempts : List Attempt) (kept : List SnapMap) : Type 0 where
  pub old : All (IsKeptIn kept) opening.snaps
  pub new : All (λ k. IsKeptIn opening.snaps k ⊎ IsNewSnapshot s opening T attempts k) kept
  pub committed : All (IsKept s kept) attempts

-- the regions finally stand for exactly what took effect, every reported commit among it, and replicas agree
pub record StandInTheEnd (g : Given) (F : List Durable) (q : Report) : Type 0 where
  pub now : SameMap (stand F).now (as_of g.opening.stand (took g.script (resolved F) q.lines) (2 ^ 64))
  pub snaps : SnapsInTheEnd g.script g.opening.stand (took g.script (resolved F) q.lines) (tries q.lines) (stand F).snaps
  pub agree : Agree F

-- what a run of a script begins with over targets of these durable states, with so many blocks free on each
abbrev pub opening_of : Script → List Durable → (ℕ → ℕ) → Opening
opening_of s B free = record { stand = kept s (stand B); lease = greatest_lease B; free = free }

-- the headline, for the durable states that the regions have in the end
pub record HeadlineOver (g : Given) (o : Outside) (F : List Durable) (q : Report) : Type 0 where
  pub told : Headline g o (resolved F) q
  pub stands : StandInTheEnd g F q
