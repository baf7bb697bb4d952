-- Which reports a text determines.
use Rattle.std.specs.Prelude.{◌≡◌, ℕ, ◌^◌, ◌<◌, Bool, nat_lt, List, [], ◌∷◌, ◌++◌, map, All, Any, Option, Some, None, if◌then◌else◌}
use Rattle.std.specs.List.{IsDistinct}
use Rattle.base_types.specs.declared.answer.Answer.{Answer}
use Rattle.base_types.specs.declared.answer.Answer.TheVariants as answer
use Rattle.base_types.specs.declared.answer.Piece.{Piece}
use Rattle.base_types.specs.declared.answer.Piece.TheVariants as piece
use Rattle.base_types.specs.declared.epoch.Epoch.{Epoch}
use Rattle.base_types.specs.declared.id.AttemptId.{AttemptId}
use Rattle.base_types.specs.declared.id.ContId.{ContId}
use Rattle.base_types.specs.declared.id.ObjId.{ObjId}
use Rattle.base_types.specs.declared.outcome.Cause.{Cause}
use Rattle.base_types.specs.declared.outcome.Cause.TheVariants as cause
use Rattle.base_types.specs.declared.outcome.FloorWhy.{FloorWhy}
use Rattle.base_types.specs.declared.outcome.FloorWhy.TheVariants as floor
use Rattle.base_types.specs.declared.outcome.Outcome.{Outcome}
use Rattle.base_types.specs.declared.outcome.Outcome.TheVariants as outcome
use Rattle.base_types.specs.declared.path.Path.{Path}
use Rattle.base_types.specs.declared.report.Attempt.{Attempt}
use Rattle.base_types.specs.declared.report.Line.{Line}
use Rattle.base_types.specs.declared.report.Line.TheVariants as line
use Rattle.base_types.specs.declared.report.Report.{Report}
use Rattle.base_types.specs.declared.script.Script.{Script}
use Rattle.base_types.specs.Keys.{IsKey, same_key}
use Rattle.base_types.specs.Scripts.{cont_name, obj_name}
use Rattle.report_writer.specs.Reports.{report_text}

-- ---- numbers as large as their types hold

abbrev pub IsEpoch : Epoch → Type 0
IsEpoch epoch = epoch.0 < 2 ^ 64

abbrev pub IsEpochOrNone : Option Epoch → Type 0
IsEpochOrNone None = Unit {0}
IsEpochOrNone (Some epoch) = IsEpoch epoch

pub record IsAttemptId (id : AttemptId) : Type 0 where
  pub client : id.client < 2 ^ 16
  pub command : id.command < 2 ^ 32
  pub attempt : id.attempt < 2 ^ 8

abbrev pub IsCond : ℕ × Bool → Type 0
IsCond cond = cond.0 < 2 ^ 8

abbrev pub IsFloorWhy : FloorWhy → Type 0
IsFloorWhy floor.Opening = ⊥
IsFloorWhy (floor.Restart number) = number < 2 ^ 32
IsFloorWhy (floor.Snapshot epoch) = IsEpoch epoch
IsFloorWhy (floor.Aggregate number) = number < 2 ^ 32

-- ---- answers

abbrev pub IsPiece : Piece → Type 0
IsPiece (piece.Bytes bytes) = Unit {0}
IsPiece (piece.Hole count) = count < 2 ^ 32

abbrev pub IsAnswer : Answer → Type 0
IsAnswer (answer.Bytes bytes) = Unit {0}
IsAnswer (answer.Parts pieces) = All IsPiece pieces
IsAnswer (answer.Names keys) = All IsKey keys
IsAnswer answer.Yes = Unit {0}
IsAnswer answer.No = Unit {0}
IsAnswer answer.Absent = Unit {0}

pub record IsGot (got : ℕ × Answer) : Type 0 where
  pub op : got.0 < 2 ^ 8
  pub answer : IsAnswer got.1

-- ---- names of a script

-- containers have names that are keys, each its own, and so have objects
pub record HasNames (s : Script) : Type 0 where
  pub cont_keys : All (λ d. IsKey d.name) s.conts
  pub cont_names : IsDistinct same_key (map cont_name s.conts)
  pub obj_keys : All (λ d. IsKey d.name) s.objs
  pub obj_names : IsDistinct same_key (map obj_name s.objs)

-- a container that a script names
pub record IsContOf (s : Script) (cont : ContId) : Type 0 where
  pub names : HasNames s
  pub declared : Any (λ d. d.id ≡ cont) s.conts

-- an object of a container that a script names
abbrev pub IsObjOf : Script → ContId → ObjId → Type 0
IsObjOf s cont obj = Any (λ d. (d.cont ≡ cont) × (d.id ≡ obj)) s.objs

-- what a path has below its container: an object, then a dkey, then an akey, as far as it goes
abbrev pub IsBelowOf : Script → ContId → Option ObjId → Option (List ℕ) → Option (List ℕ) → Type 0
IsBelowOf s cont None None None = Unit {0}
IsBelowOf s cont None None (Some akey) = ⊥
IsBelowOf s cont None (Some dkey) akey = ⊥
IsBelowOf s cont (Some obj) None None = IsObjOf s cont obj
IsBelowOf s cont (Some obj) None (Some akey) = ⊥
IsBelowOf s cont (Some obj) (Some dkey) None = IsObjOf s cont obj × IsKey dkey
IsBelowOf s cont (Some obj) (Some dkey) (Some akey) = IsObjOf s cont obj × IsKey dkey × IsKey akey

-- a path whose container and object a script names
pub record IsPathOf (s : Script) (path : Path) : Type 0 where
  pub cont : IsContOf s path.cont
  pub below : IsBelowOf s path.cont path.obj path.dkey path.akey

-- ---- outcomes, lines, reports

pub record IsAccessOf (s : Script) (by : AttemptId) (epoch : Epoch) (path : Path) : Type 0 where
  pub id : IsAttemptId by
  pub issued : IsEpoch epoch
  pub named : IsPathOf s path

pub record IsFloorOf (target : ℕ) (epoch : Epoch) (why : FloorWhy) : Type 0 where
  pub number : target < 2 ^ 8
  pub issued : IsEpoch epoch
  pub cause : IsFloorWhy why

abbrev pub IsCauseOf : Script → Cause → Type 0
IsCauseOf s (cause.ReadLater by epoch path) = IsAccessOf s by epoch path
IsCauseOf s (cause.WriteLater by epoch path) = IsAccessOf s by epoch path
IsCauseOf s (cause.Unresolved by) = IsAttemptId by
IsCauseOf s (cause.Floor target epoch why) = IsFloorOf target epoch why

pub record IsNoSpace (target need free : ℕ) : Type 0 where
  pub number : target < 2 ^ 8
  pub wanted : need < 2 ^ 32
  pub found : free < 2 ^ 32

abbrev pub IsOutcomeOf : Script → Outcome → Type 0
IsOutcomeOf s outcome.Committed = Unit {0}
IsOutcomeOf s (outcome.CondFailed op) = op < 2 ^ 8
IsOutcomeOf s (outcome.Restart why) = IsCauseOf s why
IsOutcomeOf s (outcome.NoSpace target need free) = IsNoSpace target need free
IsOutcomeOf s outcome.EpochsSpent = Unit {0}
IsOutcomeOf s outcome.NoSnapshot = Unit {0}
IsOutcomeOf s (outcome.Unknown target) = target < 2 ^ 8

pub record IsAttemptOf (s : Script) (a : Attempt) : Type 0 where
  pub id : IsAttemptId a.id
  pub epoch : IsEpochOrNone a.epoch
  pub conds : All IsCond a.conds
  pub gots : All IsGot a.gots
  pub outcome : IsOutcomeOf s a.outcome

pub record IsRestart (number target incarnation : ℕ) (floor : Epoch) : Type 0 where
  pub which : number < 2 ^ 32
  pub of_target : target < 2 ^ 8
  pub opening : incarnation < 2 ^ 64
  pub issued : IsEpoch floor

pub record IsFreezeOf (s : Script) (target : ℕ) (cont : ContId) (epoch : Epoch) : Type 0 where
  pub of_target : target < 2 ^ 8
  pub named : IsContOf s cont
  pub issued : IsEpoch epoch

pub record IsSnapshotOf (s : Script) (name : List ℕ) (cont : ContId) (epoch : Epoch) : Type 0 where
  pub key : IsKey name
  pub named : IsContOf s cont
  pub issued : IsEpoch epoch

pub record IsAggregateOf (s : Script) (number target : ℕ) (cont : ContId) (upto : Epoch) : Type 0 where
  pub which : number < 2 ^ 32
  pub of_target : target < 2 ^ 8
  pub named : IsContOf s cont
  pub issued : IsEpoch upto

abbrev pub IsLineOf : Script → Line → Type 0
IsLineOf s (line.Try attempt) = IsAttemptOf s attempt
IsLineOf s (line.Stop number target) = (number < 2 ^ 32) × (target < 2 ^ 8)
IsLineOf s (line.Restart number target incarnation floor) = IsRestart number target incarnation floor
IsLineOf s (line.Freeze target cont epoch) = IsFreezeOf s target cont epoch
IsLineOf s (line.Snapshot name cont epoch) = IsSnapshotOf s name cont epoch
IsLineOf s (line.Aggregate number target cont upto) = IsAggregateOf s number target cont upto
IsLineOf s (line.Down target) = target < 2 ^ 8

-- the lesser of a target and one that may be
abbrev pub lesser : ℕ → Option ℕ → Option ℕ
lesser target None = Some target
lesser target (Some other) = if nat_lt other target then Some other else Some target

-- the least target that a line says is down
abbrev pub least_down : List Line → Option ℕ
least_down [] = None
least_down (line.Try attempt ∷ lines) = least_down lines
least_down (line.Stop number target ∷ lines) = least_down lines
least_down (line.Restart number target incarnation floor ∷ lines) = least_down lines
least_down (line.Freeze target cont epoch ∷ lines) = least_down lines
least_down (line.Snapshot name cont epoch ∷ lines) = least_down lines
least_down (line.Aggregate number target cont upto ∷ lines) = least_down lines
least_down (line.Down target ∷ lines) = lesser target (least_down lines)

-- a report whose containers, objects and paths a script names, and whose down target is the least that a line tells
pub record IsReportOf (s : Script) (q : Report) : Type 0 where
  pub targets : q.targets < 2 ^ 8
  pub lines : All (IsLineOf s) q.lines
  pub down : q.down ≡ least_down q.lines

-- the text of a report determines it, and no text goes on from another's
pub record TextsDetermineReports : Type 0 where
  pub all : (s : Script) (q r : Report) → IsReportOf s q → IsReportOf s r → report_text s q ≡ report_text s r → q ≡ r
  pub no_prefix : (s t : Script) (q r : Report) (rest : List ℕ) → IsReportOf s q → IsReportOf t r → report_text t r ≡ report_text s q ++ rest → rest ≡ []
