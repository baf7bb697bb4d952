-- Every answer that a report tells is what the transactions that took effect give.
use Rattle.std.specs.Prelude.{ℕ, ◌≡◌, Bool, true, List, [], Option, Some, None, All, find, slice_get}
use Rattle.base_types.specs.declared.answer.Answer.{Answer}
use Rattle.base_types.specs.declared.epoch.Epoch.{Epoch}
use Rattle.base_types.specs.declared.operation.Op.{Op}
use Rattle.base_types.specs.declared.operation.Read.{Read}
use Rattle.base_types.specs.declared.report.Attempt.{Attempt}
use Rattle.base_types.specs.declared.report.Report.{Report}
use Rattle.base_types.specs.declared.script.OldDecl.{OldDecl}
use Rattle.base_types.specs.declared.script.Script.{Script}
use Rattle.base_types.specs.Keys.{same_key}
use Rattle.daos_model.specs.declared.cell.CellValue.{CellValue}
use Rattle.daos_model.specs.declared.stand.Taken.{Taken}
use Rattle.daos_model.specs.declared.stand.Stand.{Stand}
use Rattle.daos_model.specs.Accesses.{is_condition, op_path}
use Rattle.daos_model.specs.Answers.{answer, has_cell_below}
use Rattle.daos_model.specs.AsOf.{as_of}
use Rattle.daos_model.specs.Attempts.{snapshot_of, tries}
use Rattle.daos_model.specs.Opening.{kept_map}
use Rattle.daos_model.specs.Transactions.{attempt_ops, read_at}

-- the operation of this number is a read, and this is its answer on a map
abbrev pub IsRightAnswer : List Op → List CellValue → ℕ × Answer → Type 0
IsRightAnswer ops m got = (r : Read) × (read_at ops got.0 ≡ Some r) × (got.1 ≡ answer r m)

-- the operation of this number has a condition, and this tells whether a cell stands under its path
abbrev pub IsRightCondition : List Op → List CellValue → ℕ × Bool → Type 0
IsRightCondition ops m told = (op : Op) × (slice_get ops told.0 ≡ Some op) × (is_condition op.cond ≡ true) × (told.1 ≡ has_cell_below (op_path op) m)

-- what an attempt was told is right on a map; where there is no map it was told nothing
abbrev pub IsToldRight : List Op → Option (List CellValue) → Attempt → Type 0
IsToldRight ops None a = (a.gots ≡ []) × (a.conds ≡ [])
IsToldRight ops (Some m) a = All (IsRightAnswer ops m) a.gots × All (IsRightCondition ops m) a.conds

abbrev pub is_named : List ℕ → OldDecl → Bool
is_named name d = same_key name d.name

-- the map of a snapshot: of one that an earlier run created, that which the regions keep; of one of this run, the map as of
-- its epoch
abbrev pub old_map : Stand → List Taken → ℕ → Option OldDecl → Option (List CellValue)
old_map opening T e None = Some (as_of opening T e)
old_map opening T e (Some d) = kept_map d.cont d.epoch.0 opening.snaps

abbrev pub map_at : Script → Stand → List Taken → ℕ → Option (List ℕ) → Option (List CellValue)
map_at s opening T e None = Some (as_of opening T e)
map_at s opening T e (Some name) = old_map opening T e (find (is_named name) s.olds)

-- the map that an attempt reads: as of its epoch, or that of its snapshot; none where it has no epoch
abbrev pub map_read : Script → Stand → List Taken → Attempt → Option Epoch → Option (List CellValue)
map_read s opening T a None = None
map_read s opening T a (Some e) = map_at s opening T e.0 (snapshot_of s a.id)

-- what an attempt was told is right, whatever its outcome
abbrev pub AttemptReadsLegal : Script → Stand → List Taken → Attempt → Type 0
AttemptReadsLegal s opening T a = IsToldRight (attempt_ops s a.id) (map_read s opening T a a.epoch) a

-- of a whole report, with the transactions that took effect
abbrev pub ReadsLegal : Script → Stand → List Taken → Report → Type 0
ReadsLegal s opening T q = All (AttemptReadsLegal s opening T) (tries q.lines)
