-- How snapshots and aggregations go with the lines that tell of them.
use Rattle.std.specs.Prelude.{ℕ, ◌≡◌, ◌≤◌, ◌↔◌, true, List, Option, Some, None, Any, Contains, All, find, is_some}
use Rattle.base_types.specs.declared.epoch.Epoch.{Epoch}
use Rattle.base_types.specs.declared.id.ContId.{ContId}
use Rattle.base_types.specs.declared.outcome.Outcome.TheVariants as outcome
use Rattle.base_types.specs.declared.report.Attempt.{Attempt}
use Rattle.base_types.specs.declared.report.Line.{Line}
use Rattle.base_types.specs.declared.report.Line.TheVariants as line
use Rattle.base_types.specs.declared.script.Command.TheVariants.{Snap, Aggregate}
use Rattle.base_types.specs.declared.script.OldDecl.{OldDecl}
use Rattle.base_types.specs.declared.script.Script.{Script}
use Rattle.daos_model.specs.declared.stand.Stand.{Stand}
use Rattle.daos_model.specs.Attempts.{EachTry, snapshot_of, tries, tries_of}
use Rattle.daos_model.specs.Opening.{kept_map}
use Rattle.daos_model.specs.ReadsLegal.{is_named}
use Rattle.daos_model.specs.Transactions.{command_of}

-- an attempt makes the snapshot of this name of a container, at this epoch
pub record MakesSnapshot (s : Script) (name : List ℕ) (cont : ContId) (epoch : Epoch) (a : Attempt) : Type 0 where
  pub command : command_of s a.id ≡ Some (Snap name cont)
  pub issued : a.epoch ≡ Some epoch

-- an attempt makes a snapshot of a container, at this epoch
abbrev pub MakesSnapshotAt : Script → ContId → Epoch → Attempt → Type 0
MakesSnapshotAt s cont epoch a = (name : List ℕ) × MakesSnapshot s name cont epoch a

-- an attempt aggregates a container, up to this epoch or further
pub record Aggregates (s : Script) (cont : ContId) (upto : Epoch) (a : Attempt) : Type 0 where
  pub command : command_of s a.id ≡ Some (Aggregate cont)
  pub epoch : Epoch
  pub issued : a.epoch ≡ Some epoch
  pub reaches : upto.0 ≤ epoch.0

-- lines of freezes, snapshots and aggregations come from attempts
abbrev pub ComesFrom : Script → List Attempt → Line → Type 0
ComesFrom s attempts (line.Try a) = Unit {0}
ComesFrom s attempts (line.Stop number target) = Unit {0}
ComesFrom s attempts (line.Restart number target incarnation floor) = Unit {0}
ComesFrom s attempts (line.Freeze target cont epoch) = Any (MakesSnapshotAt s cont epoch) attempts
ComesFrom s attempts (line.Snapshot name cont epoch) = Any (MakesSnapshot s name cont epoch) attempts
ComesFrom s attempts (line.Aggregate number target cont upto) = Any (Aggregates s cont upto) attempts
ComesFrom s attempts (line.Down target) = Unit {0}

-- a committed snapshot has its line before it
abbrev pub HasSnapshotLine : Script → List Line → Attempt → Type 0
HasSnapshotLine s before a =
    (name : List ℕ) (cont : ContId) (epoch : Epoch) → MakesSnapshot s name cont epoch a → a.outcome ≡ outcome.Committed → Contains before (line.Snapshot name cont epoch)

-- an attempt made the snapshot of this name, at this epoch
pub record Made (s : Script) (name : List ℕ) (epoch : Epoch) (a : Attempt) : Type 0 where
  pub cont : ContId
  pub snaps : MakesSnapshot s name cont epoch a
  pub committed : a.outcome ≡ outcome.Committed

-- a name stands for a snapshot that was created at this epoch: one that an earlier run created and the regions keep, or one that
-- the client made before
abbrev pub IsCreated : Script → Stand → List Attempt → List ℕ → Option OldDecl → Epoch → Type 0
IsCreated s opening earlier name None epoch = Any (Made s name epoch) earlier
IsCreated s opening earlier name (Some d) epoch = (is_some (kept_map d.cont d.epoch.0 opening.snaps) ≡ true) × (d.epoch ≡ epoch)

-- a name stands for a created snapshot, at this epoch
abbrev pub StandsFor : Script → Stand → List Attempt → List ℕ → Epoch → Type 0
StandsFor s opening earlier name epoch = IsCreated s opening earlier name (find (is_named name) s.olds) epoch

-- an attempt reads at a snapshot: its epoch is the snapshot's; where the name stands for none it has no epoch and ends so
pub record IsSnapshotRead (s : Script) (opening : Stand) (earlier : List Attempt) (name : List ℕ) (a : Attempt) : Type 0 where
  pub epoch : (e : Epoch) → (a.epoch ≡ Some e) ↔ StandsFor s opening earlier name e
  pub none : (a.outcome ≡ outcome.NoSnapshot) ↔ (a.epoch ≡ None)

-- an attempt ends with no snapshot exactly where it reads at one and the name stands for none
abbrev pub NoneLegal : Script → Stand → List Attempt → Attempt → Option (List ℕ) → Type 0
NoneLegal s opening earlier a None = a.outcome ≡ outcome.NoSnapshot → ⊥
NoneLegal s opening earlier a (Some name) = IsSnapshotRead s opening earlier name a

abbrev pub SnapshotIsThere : Script → Stand → List Line → Attempt → Type 0
SnapshotIsThere s opening before a = NoneLegal s opening (tries_of a.id.client before) a (snapshot_of s a.id)

pub record SnapshotsLegal (s : Script) (opening : Stand) (lines : List Line) : Type 0 where
  pub lines_from : All (ComesFrom s (tries lines)) lines
  pub committed : EachTry (HasSnapshotLine s) lines
  pub none : EachTry (SnapshotIsThere s opening) lines
