-- What is asked at a snapshot is right: it is asked at one that is kept or made, and frozen where it is asked, in the container of the read.
use Rattle.std.specs.Prelude.{ℕ, ◌≡◌, true, slice_get, Option, Some}
use Rattle.std.proofs.Common.{sym, ◌∙◌, ap, subst}
use Rattle.base_types.specs.declared.epoch.Epoch.{Epoch}
use Rattle.base_types.specs.declared.id.AttemptId.{AttemptId}
use Rattle.base_types.specs.declared.operation.Op.{Op}
use Rattle.base_types.specs.declared.operation.Read.{Read}
use Rattle.base_types.specs.Operations.{read_path}
use Rattle.base_types.specs.Scripts.{IsInForm}
use Rattle.base_messages.specs.declared.message.Message.TheVariants as message
use Rattle.model_laws.specs.Members.{Has}
use Rattle.daos_model.specs.Opening.{Opening, top}
use Rattle.daos_model.specs.Transactions.{attempt_ops}
use Rattle.dtx_base.specs.declared.member.Parked.{Parked}
use Rattle.world_base.specs.declared.client.Stage.{Stage}
use Rattle.world_base.specs.declared.letter.Letter.{Letter}
use Rattle.world_base.specs.declared.target.TargetState.{TargetState}
use Rattle.world_base.specs.declared.world.World.{World}
use Rattle.world_base.specs.ClientTurns.{question}
use Rattle.world_base.specs.Events.{Rules}
use Rattle.world_letters.specs.epochs.Epochs.{Epochs}
use Rattle.world_making.specs.freezings.Freezings.{Freezings}
use Rattle.world_making.specs.freezings.Naming.{new-unnamed, reads-inside}
use Rattle.world_making.specs.freezings.Seeing.{ANew, AnOld, NamesSnapshot, SeesFrozen, fetches-ask, waiting-see}
use Rattle.world_causes.specs.world_contents.gots.HearGots.{question-path}
use Rattle.world_causes.specs.world_contents.reads.Given.{HasReadEpoch, IsItsSnapshot, IsKept, IsMade, IsReadEpoch}
use Rattle.world_letters.specs.snapshots.Makings.{Makings}

-- a read is what an operation of an attempt asks: its condition or its read
pub record AsksOp (r : Rules) (x : AttemptId) (n : ℕ) (q : Read) : Type 0 where
  pub op : Op
  pub at : slice_get (attempt_ops r.script x) n ≡ Some op
  pub stage : Stage
  pub asks : question stage op ≡ Some q

-- ---- the statements

-- what is asked at a snapshot, in a run of a script in form, has an epoch at which every target may answer it
abbrev pub SnapshotFetchesAreRight : Type 0
SnapshotFetchesAreRight =
    (targets : ℕ) (r : Rules) (o : Opening) (w : World) → IsInForm targets r.script → Freezings r o w → Makings r w → Epochs r (top o) w → (l : Letter) (x : AttemptId)
    (n group : ℕ) (e : Epoch) (first : Option Epoch) (tracker : Epoch) (q : Read) → Has l w.messages
    → l.message ≡ message.Fetch x n group (Some e) first tracker q true → AsksOp r x n q → (t : ℕ) (s : TargetState) → slice_get w.targets t ≡ Some s → HasReadEpoch r o w t s x (read_path q).cont (Some e) tracker true

-- and so has what waits at a target
abbrev pub SnapshotWaitersAreRight : Type 0
SnapshotWaitersAreRight =
    (targets : ℕ) (r : Rules) (o : Opening) (w : World) → IsInForm targets r.script → Freezings r o w → Makings r w → Epochs r (top o) w → (t : ℕ) (s : TargetState) (p : Parked)
    (x : AttemptId) (n group : ℕ) (e : Epoch) (first : Option Epoch) (tracker : Epoch) (q : Read)
    → slice_get w.targets t ≡ Some s → Has p s.memory.member.parked → p.ask ≡ message.Fetch x n group (Some e) first tracker q true → AsksOp r x n q → IsReadEpoch r o w s.durable x (read_path q).cont (Some e) true e

-- ---- the proofs

module _ (targets : ℕ) (r : Rules) (o : Opening) (w : World) (form : IsInForm targets r.script) (x : AttemptId) (e : Epoch) (g : SeesFrozen r o w x e) (n : ℕ) (q : Read) (a : AsksOp r x n q) where
  inside : (read_path q).cont ≡ g.cont
  inside = ap (λ p. p.cont) (question-path a.stage a.op q a.asks) ∙ reads-inside targets r form o x g.name g.cont e n a.op g.reads g.names a.at

  its-snapshot : IsItsSnapshot r o x g.cont e
  its-snapshot = by g.names
    where
      by : NamesSnapshot r o x.client g.name g.cont e → IsItsSnapshot r o x g.cont e
      by (AnOld d m found cont epoch low kept) = IsKept g.name d m g.reads found cont epoch low kept
      by (ANew y own of high) = IsMade g.name g.reads (new-unnamed targets r form y g.name g.cont of) high

  read-right : (t : ℕ) (s : TargetState) (ep : Option Epoch) → slice_get w.targets t ≡ Some s → IsReadEpoch r o w s.durable x (read_path q).cont ep true e
  read-right t s ep here = subst (λ c. IsReadEpoch r o w s.durable x c ep true e) (sym inside) (its-snapshot, g.frozen t s here)

pub fetches-right : SnapshotFetchesAreRight
fetches-right targets r o w form k makings epochs l x n group e first tracker q i says asks t s here reading e2 is =
    let same : e ≡ e2 = cc in
    subst (IsReadEpoch r o w s.durable x (read_path q).cont (Some e) true) same (read-right targets r o w form x e (fetches-ask r o w k makings epochs l x n group e first tracker q i says) n q asks t s (Some e) here)

pub waiters-right : SnapshotWaitersAreRight
waiters-right targets r o w form k makings epochs t s p x n group e first tracker q here i says asks =
    read-right targets r o w form x e (waiting-see r o w k makings epochs t s p x n group e first tracker q here i says) n q asks t s (Some e) here
