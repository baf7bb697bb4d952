-- What follows from that clients were told what was served: where that was answered right, so was what they were told.
use Rattle.std.specs.Prelude.{ℕ, ◌≡◌, List, All, Some, None}
use Rattle.base_types.specs.declared.answer.Answer.{Answer}
use Rattle.base_types.specs.declared.epoch.Epoch.{Epoch}
use Rattle.base_types.specs.declared.id.AttemptId.{AttemptId}
use Rattle.base_types.specs.declared.id.ObjId.{ObjId}
use Rattle.base_types.specs.declared.operation.Op.{Op}
use Rattle.base_types.specs.declared.operation.Read.{Read}
use Rattle.base_types.specs.declared.operation.Read.TheVariants as read
use Rattle.base_types.specs.declared.report.Attempt.{Attempt}
use Rattle.base_types.specs.declared.report.Report.{Report}
use Rattle.base_types.specs.Operations.{read_path}
use Rattle.base_types.specs.Placement.{ClassFits}
use Rattle.base_types.specs.Scripts.{IsInForm, IsOpInForm}
use Rattle.model_laws.specs.Decided.{taken_in}
use Rattle.model_laws.specs.Groups.{HasDkeys}
use Rattle.model_laws.specs.Members.{Has}
use Rattle.daos_model.specs.Answers.{answer}
use Rattle.daos_model.specs.Opening.{Opening}
use Rattle.daos_model.specs.ReadsLegal.{AttemptReadsLegal, IsToldRight, ReadsLegal}
use Rattle.world_commit.specs.world_base.declared.world.World.{World}
use Rattle.world_commit.specs.world_base.Events.{Rules}
use Rattle.world_contents.specs.gots.Gots.{AreServed, Gots, IsJoined, IsLineServed}
use Rattle.world_commit.specs.attempts.History.{History, Served}
use Rattle.world_contents.specs.reads.Transactions.{transactions}
use Rattle.world_contents.specs.reads.Reads.{IsAnsweredRight, map_seen}
use Rattle.daos_model.specs.declared.cell.CellValue.{CellValue}

-- all that was served was answered right
abbrev pub AreAnsweredRight : Rules → Opening → History → Type 0
AreAnsweredRight r o h = (q : Served) → Has q h.served → IsAnsweredRight r o h q

-- a read that several groups answer together: of the names of dkeys, or of whether there is a cell; else one of a dkey, which
-- has one group
abbrev pub IsJoinable : Read → Type 0
IsJoinable (read.Single p) = (k : List ℕ) × (p.dkey ≡ Some k)
IsJoinable (read.Extent p low len) = (k : List ℕ) × (p.dkey ≡ Some k)
IsJoinable (read.Dkeys p) = Unit {0}
IsJoinable (read.Akeys p) = (k : List ℕ) × (p.dkey ≡ Some k)
IsJoinable (read.Exists p) = Unit {0}

-- such a read of an object for which there are targets enough
pub record IsAskable (targets : ℕ) (q : Read) : Type 0 where
  pub obj : ObjId
  pub of_object : (read_path q).obj ≡ Some obj
  pub fits : ClassFits obj.class targets
  pub joinable : IsJoinable q

-- What all the groups of a read's path gave, joined, is the read's answer on the map that its attempt reads, of which no cell is
-- without a dkey.
abbrev pub JoinsAreRight : Type 0
JoinsAreRight =
    (r : Rules) (o : Opening) (h : History) (x : AttemptId) (op : ℕ) (q : Read) (e : Epoch) (b : Answer) (m : List CellValue) → AreAnsweredRight r o h → IsAskable r.script.targets q → map_seen r o h x e ≡ Some m → HasDkeys m
    → IsJoined h x r.script.targets op q (Some e) b → b ≡ answer q m

-- What an attempt was told is right on the map that it reads.
abbrev pub ToldIsRight : Type 0
ToldIsRight =
    (r : Rules) (o : Opening) (h : History) (ops : List Op) (a : Attempt) (e : Epoch) (m : List CellValue) → All (λ d. ClassFits d.id.class r.script.targets) r.script.objs → All (IsOpInForm r.script.objs) ops
    → AreAnsweredRight r o h → map_seen r o h a.id e ≡ Some m → HasDkeys m → AreServed h a.id r.script.targets ops (Some e) a.gots a.conds → IsToldRight ops (Some m) a

-- One that reads at a snapshot which isn't kept was told nothing.
abbrev pub NothingIsToldOfNone : Type 0
NothingIsToldOfNone =
    (r : Rules) (o : Opening) (h : History) (ops : List Op) (a : Attempt) (e : Epoch) → AreAnsweredRight r o h → map_seen r o h a.id e ≡ None → AreServed h a.id r.script.targets ops (Some e) a.gots a.conds → IsToldRight ops None a

-- An attempt without an epoch was told nothing.
abbrev pub NothingIsToldBefore : Type 0
NothingIsToldBefore = (h : History) (x : AttemptId) (targets : ℕ) (ops : List Op) (a : Attempt) → AreServed h x targets ops None a.gots a.conds → IsToldRight ops None a

-- the maps that attempts read have no cell without a dkey
abbrev pub SeenHaveDkeys : Rules → Opening → History → Type 0
SeenHaveDkeys r o h = (x : AttemptId) (e : Epoch) (m : List CellValue) → map_seen r o h x e ≡ Some m → HasDkeys m

-- So where a script is in form, what a line tells of an attempt is what the decided transactions give, or the snapshot at which it reads.
abbrev pub LinesAreRight : Type 0
LinesAreRight =
    (r : Rules) (o : Opening) (h : History) (targets : ℕ) (a : Attempt) → IsInForm targets r.script → AreAnsweredRight r o h → SeenHaveDkeys r o h → IsLineServed r h a
    → AttemptReadsLegal r.script o.stand (taken_in (transactions r.script h)) a

-- And so does a whole report.
abbrev pub ReportsAreRight : Type 0
ReportsAreRight =
    (r : Rules) (o : Opening) (h : History) (w : World) (targets : ℕ) (q : Report) → IsInForm targets r.script → AreAnsweredRight r o h → SeenHaveDkeys r o h → Gots r h w → q.lines ≡ w.lines
    → ReadsLegal r.script o.stand (taken_in (transactions r.script h)) q
