-- What targets answered still holds: later writes that would change it are refused.
use Rattle.std.specs.Prelude.{ℕ, ◌≡◌, ◌⊎◌, ◌≤◌, ◌/◌, true, false, List, Contains, slice_get, Some, Option}
use Rattle.base_types.specs.declared.epoch.Epoch.{Epoch}
use Rattle.base_types.specs.declared.id.ObjId.{ObjId}
use Rattle.base_types.specs.declared.operation.Op.{Op}
use Rattle.base_types.specs.declared.shown.Shown.{Shown}
use Rattle.base_types.specs.Operations.{read_path}
use Rattle.base_types.specs.Paths.{overlaps}
use Rattle.model_laws.specs.Decided.{taken_in}
use Rattle.model_laws.specs.Groups.{IsPartUnder}
use Rattle.model_laws.specs.Members.{Has}
use Rattle.daos_model.specs.declared.cell.CellValue.{CellValue}
use Rattle.daos_model.specs.declared.durable.Version.{Version}
use Rattle.daos_model.specs.Accesses.{asked_member}
use Rattle.daos_model.specs.Answers.{answer}
use Rattle.daos_model.specs.AsOf.{as_of}
use Rattle.daos_model.specs.Forms.{is_read_in_form}
use Rattle.daos_model.specs.Opening.{Opening}
use Rattle.daos_model.specs.Transactions.{attempt_ops}
use Rattle.daos_model.specs.Versions.{version_path}
use Rattle.vos_store.specs.Answers.{floor_of}
use Rattle.world_commit.specs.attempts.History.{History, Served}
use Rattle.world_commit.specs.world_base.declared.client.Stage.{Stage}
use Rattle.world_commit.specs.world_base.declared.target.TargetState.{TargetState}
use Rattle.world_commit.specs.world_base.declared.target.Life.TheVariants.{Running}
use Rattle.world_commit.specs.world_base.declared.world.World.{World}
use Rattle.world_commit.specs.world_base.ClientTurns.{question}
use Rattle.world_commit.specs.world_base.Events.{Rules}
use Rattle.world_contents.specs.reads.Transactions.{transactions}
use Rattle.base_types.specs.declared.id.AttemptId.{AttemptId}
use Rattle.daos_model.specs.Attempts.{snapshot_of}
use Rattle.daos_model.specs.ReadsLegal.{map_at}
use Rattle.world_commit.specs.world_letters.clients.Snapshots.{is_at_snapshot}

-- the map as of an epoch, of what was decided
abbrev pub map_then : Rules → Opening → History → Epoch → List CellValue
map_then r o h e = as_of o.stand (taken_in (transactions r.script h)) e.0

-- the map that an attempt reads, of what was decided: as of its epoch, or that of its snapshot
abbrev pub map_seen : Rules → Opening → History → AttemptId → Epoch → Option (List CellValue)
map_seen r o h x e = map_at r.script o.stand (taken_in (transactions r.script h)) e.0 (snapshot_of r.script x)

-- a served read was answered on its group's part of the map that its attempt reads
pub record IsAnsweredRight (r : Rules) (o : Opening) (h : History) (q : Served) : Type 0 where
  pub map : List CellValue
  pub seen : map_seen r o h q.by q.epoch ≡ Some map
  pub obj : ObjId
  pub of_object : (read_path q.read).obj ≡ Some obj
  pub part : List CellValue
  pub is_part : IsPartUnder obj.class r.script.targets (read_path q.read) q.group map part
  pub right : q.answer ≡ answer q.read part

-- it is what an operation of its attempt asks: a condition or a read, of the member of the group that the command asks
pub record IsOfAttempt (r : Rules) (q : Served) : Type 0 where
  pub op : Op
  pub at : (n : ℕ) × (n ≡ q.op) × (slice_get (attempt_ops r.script q.by) n ≡ Some op)
  pub stage : Stage
  pub asks : question stage op ≡ Some q.read
  pub obj : ObjId
  pub of_object : (read_path q.read).obj ≡ Some obj
  pub member : q.target ≡ asked_member obj q.by.command r.script.targets q.group

-- a running target refuses every write that would change what it answered: a timestamp stands there, or its floor
abbrev pub IsGuarded : TargetState → Served → Type 0
IsGuarded s q = (q.epoch.0 ≤ (floor_of s.opening s.durable (read_path q.read).cont).0.0) ⊎ Contains s.memory.stamps (record { by = q.by; epoch = q.epoch; path = read_path q.read })

pub record Reads (r : Rules) (o : Opening) (h : History) (w : World) : Type 0 where
  pub asked : (q : Served) → Has q h.served → IsOfAttempt r q
  pub form : (q : Served) → Has q h.served → is_read_in_form q.read ≡ true
  -- its epoch was issued to its attempt, unless that reads at a snapshot
  pub issued : (q : Served) → Has q h.served → is_at_snapshot r q.by ≡ false → Contains w.issued (q.by, q.epoch)
  pub answers : (q : Served) → Has q h.served → IsAnsweredRight r o h q
  pub guarded : (q : Served) (s : TargetState) → Has q h.served → slice_get w.targets q.target ≡ Some s → s.life ≡ Running → IsGuarded s q
  pub leased : (q : Served) (s : TargetState) → Has q h.served → slice_get w.targets q.target ≡ Some s → q.epoch.0 / 256 ≤ s.durable.lease
  -- no unsettled version of the target lies below it on an overlapping path
  pub barred : (q : Served) (s : TargetState) (v : Version) → Has q h.served → slice_get w.targets q.target ≡ Some s → Contains s.durable.versions v → v.done ≡ false
      → overlaps (version_path v) (read_path q.read) ≡ true → q.epoch.0 ≤ v.epoch.0
  -- each timestamp is of a served read, at no snapshot
  pub stamps : (t : ℕ) (s : TargetState) (z : Shown) → slice_get w.targets t ≡ Some s → s.life ≡ Running → Contains s.memory.stamps z
      → (q : Served) × Has q h.served × (q.target ≡ t) × (q.by ≡ z.by) × (q.epoch ≡ z.epoch) × (read_path q.read ≡ z.path) × (is_at_snapshot r q.by ≡ false)
