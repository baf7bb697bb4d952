-- Epochs: each attempt has at most one, no two have the same, and those of a client rise.
use Rattle.std.specs.Prelude.{ℕ, ◌≡◌, ◌≤◌, ◌<◌, ◌/◌, ◌%◌, ◌⊎◌, Bool, true, false, not, is_some, List, [], ◌∷◌, drop, length, Contains, slice_get, Option, Some, None}
use Rattle.base_types.specs.declared.entry.Entry.{Entry}
use Rattle.base_types.specs.declared.epoch.Epoch.{Epoch}
use Rattle.base_types.specs.declared.id.AttemptId.{AttemptId}
use Rattle.base_types.specs.declared.operation.MinorWrite.{MinorWrite}
use Rattle.base_types.specs.declared.operation.Op.{Op}
use Rattle.base_types.specs.declared.operation.Read.{Read}
use Rattle.base_types.specs.declared.path.Path.{Path}
use Rattle.base_types.specs.declared.report.Attempt.{Attempt}
use Rattle.base_types.specs.declared.report.Line.{Line}
use Rattle.base_types.specs.declared.script.Command.{Command}
use Rattle.base_types.specs.declared.script.Command.TheVariants.{Run, Snap, Aggregate, Tell, Skip}
use Rattle.base_types.specs.declared.script.Script.{Script}
use Rattle.base_types.specs.Operations.{read_path}
use Rattle.base_types.specs.Placement.{writes_leader}
use Rattle.base_messages.specs.declared.message.Message.{Message}
use Rattle.base_messages.specs.declared.message.Message.TheVariants as message
use Rattle.base_messages.specs.declared.message.Reply.TheVariants as reply
use Rattle.daos_model.specs.Accesses.{minor_writes}
use Rattle.daos_model.specs.Attempts.{has_own_epoch, is_unsure, tries, is_lost, snapshot_of}
use Rattle.daos_model.specs.Order.{AllRise, AreIssued, told_by}
use Rattle.daos_model.specs.Transactions.{attempt_ops, command_of}
use Rattle.world_base.specs.dtx_base.declared.member.Parked.{Parked}
use Rattle.world_base.specs.declared.client.ClientState.{ClientState}
use Rattle.world_base.specs.declared.client.Present.{Present}
use Rattle.world_base.specs.declared.client.Stage.{Stage}
use Rattle.world_base.specs.declared.client.Stage.TheVariants as stage
use Rattle.world_base.specs.declared.letter.Letter.{Letter}
use Rattle.world_base.specs.declared.target.TargetState.{TargetState}
use Rattle.world_base.specs.declared.target.Life.TheVariants.{Running}
use Rattle.world_base.specs.declared.world.World.{World}
use Rattle.world_base.specs.ClientTurns.{act_read, attempt_id, condition_read, group_asked, member_asked, known_epoch}
use Rattle.world_letters.specs.clients.Standing.{HasTold}
use Rattle.world_base.specs.Events.{Rules, client_plan, commands_or_none}
use Rattle.world_base.specs.Letters.{client, target}
use Rattle.world_base.specs.Commits.{or_else}
use Rattle.world_letters.specs.clients.Snapshots.{is_at_snapshot}

-- ---- the runs that this speaks of

-- a transaction that reads at no snapshot, a tracker that is told, or turns that are skipped
abbrev pub is_unsnapped : Command → Bool
is_unsnapped (Run ops turns snapshot) = not (is_some snapshot)
is_unsnapped (Snap name cont) = false
is_unsnapped (Aggregate cont) = false
is_unsnapped (Tell client) = true
is_unsnapped (Skip turns) = true

-- no client makes a snapshot, reads at one, or aggregates
abbrev pub Unsnapped : Rules → Type 0
Unsnapped r = (n k : ℕ) (d : Command) → slice_get (commands_or_none (slice_get r.script.clients n)) k ≡ Some d → is_unsnapped d ≡ true

-- each client is at the command of its number, as its attempts so far told
abbrev pub ClientsStand : Rules → World → Type 0
ClientsStand r w = (n : ℕ) (c : ClientState) → slice_get w.clients n ≡ Some c → (attempts : List Attempt) × HasTold (client_plan r n) c attempts

-- ---- the target that issues an attempt's epoch

-- what some operations ask first: a condition or a read
abbrev pub first_question : List Op → Option Read
first_question [] = None
first_question (op ∷ ops) = or_else (condition_read op op.cond) (or_else (act_read op.act) (first_question ops))

-- the member of its first group that a command of this number asks about a path
abbrev pub asked_first : ℕ → ℕ → Path → ℕ
asked_first command targets p = member_asked p.obj command targets (group_asked p.obj p.dkey targets 0)

-- the target that a command of this number asks first: about its first question, or, where it has none, to commit its writes
abbrev pub first_target : ℕ → ℕ → List MinorWrite → Option Read → ℕ
first_target command targets ws None = writes_leader ws targets
first_target command targets ws (Some r) = asked_first command targets (read_path r)

-- the target that the command of an attempt asks first: it issues the epochs of all attempts of that command
unfoldable pub issuer_of : Script → AttemptId → ℕ
issuer_of s x = first_target x.command s.targets (minor_writes 0 (attempt_ops s x)) (first_question (attempt_ops s x))

abbrev pub behind_condition : List Op → Option Read
behind_condition [] = None
behind_condition (op ∷ ops) = or_else (act_read op.act) (first_question ops)

-- what is left to be asked first, at this stage of the first of some operations
abbrev pub left_to_ask : Stage → List Op → Option Read
left_to_ask stage.Skip ops = first_question ops
left_to_ask stage.Cond ops = first_question ops
left_to_ask stage.Act ops = behind_condition ops

-- what an attempt asks now is what its command asks first, of the first group
pub record AsksFirst (ops : List Op) (a : Present) : Type 0 where
  pub group : a.group ≡ 0
  pub next : left_to_ask a.stage (drop a.op ops) ≡ first_question ops

-- ---- attempts and their epochs

-- an epoch was issued to an attempt
abbrev pub IsIssued : World → AttemptId → Epoch → Type 0
IsIssued w x e = Contains w.issued (x, e)

-- none was
abbrev pub IsUnissued : World → AttemptId → Type 0
IsUnissued w x = (e : Epoch) → IsIssued w x e → ⊥

-- the client of an attempt is at it
pub record IsAt (r : Rules) (clients : List ClientState) (x : AttemptId) : Type 0 where
  pub c : ClientState
  pub a : Present
  pub here : slice_get clients x.client ≡ Some c
  pub at : c.present ≡ Some a
  pub own : attempt_id (client_plan r x.client) c a ≡ x

abbrev pub IsPresent : Rules → World → AttemptId → Type 0
IsPresent r w x = IsAt r w.clients x

-- a client is past an attempt: it is at a later command, or at a later attempt of that command
abbrev pub IsPast : ClientState → AttemptId → Type 0
IsPast c x = (x.command < c.command) ⊎ ((a : Present) × (c.present ≡ Some a) × (x.command ≡ c.command) × (x.attempt < a.attempt))

-- a line tells of an attempt with an epoch
abbrev pub HasLine : World → AttemptId → Epoch → Type 0
HasLine w x e = (a : Attempt) × Contains (tries w.lines) a × (a.id ≡ x) × (a.epoch ≡ Some e)

-- a client was told an epoch: its own, by a line of an attempt of which it is known what became; or one in a cause
pub data Told (s : Script) (lines : List Line) (n : ℕ) (e : ℕ) : Type 0 where
  ItsOwn : (a : Attempt) → Contains (tries lines) a → a.id.client ≡ n → (own : Epoch) → a.epoch ≡ Some own → has_own_epoch s a ≡ true → is_unsure a ≡ false → own.0 ≡ e → Told s lines n e
  InCause : (a : Attempt) → Contains (tries lines) a → a.id.client ≡ n → Contains (told_by a.outcome) e → Told s lines n e

abbrev pub IsTold : Rules → World → ℕ → ℕ → Type 0
IsTold r w n e = Told r.script w.lines n e

-- ---- messages

-- a request for which an epoch is to be issued, after this tracker
abbrev pub AsksEpoch : Message → AttemptId → Epoch → Type 0
AsksEpoch (message.Fetch x op group None first tracker r snapshot) y k = (x ≡ y) × (tracker ≡ k)
AsksEpoch (message.Commit x None first tracker ws) y k = (x ≡ y) × (tracker ≡ k)
AsksEpoch (message.Snap x cont name tracker) y k = (x ≡ y) × (tracker ≡ k)
AsksEpoch (message.Prune x cont (Some tracker) None) y k = (x ≡ y) × (tracker ≡ k)
AsksEpoch m y k = ⊥

-- an answer to an attempt for which no epoch was left; where it tells that the attempt itself is unresolved, one may have been issued
abbrev pub LacksEpoch : Message → AttemptId → Type 0
LacksEpoch (message.Fetched x op group None b) y = x ≡ y
LacksEpoch (message.Ended x None how) y = (x ≡ y) × (is_lost x how ≡ false)
LacksEpoch m y = ⊥

-- a message that bears an attempt's own epoch
abbrev pub BearsEpoch : Message → AttemptId → Epoch → Type 0
BearsEpoch (message.Fetch x op group (Some own) first tracker r false) y e = (x ≡ y) × (own ≡ e)
BearsEpoch (message.Fetched x op group (Some own) b) y e = (x ≡ y) × (own ≡ e)
BearsEpoch (message.Commit x (Some own) first tracker ws) y e = (x ≡ y) × (own ≡ e)
BearsEpoch (message.Ended x (Some own) how) y e = (x ≡ y) × (own ≡ e)
BearsEpoch (message.Prepare k first ws inc) y e = (k.attempt ≡ y) × (k.epoch ≡ e)
BearsEpoch m y e = ⊥

-- a read is answered at no epoch
abbrev pub answers_undated : Message → Bool
answers_undated (message.Fetched x op group None (reply.Answer b)) = true
answers_undated m = false

-- a read at a snapshot
abbrev pub reads_snapshot : Message → Bool
reads_snapshot (message.Fetch x op group e first tracker r snapshot) = snapshot
reads_snapshot m = false

-- ---- the fact

-- the client of an attempt that reads at a snapshot knows one of that name, which is of this epoch
pub record ReadsNamed (r : Rules) (clients : List ClientState) (x : AttemptId) (e : Epoch) : Type 0 where
  pub name : List ℕ
  pub reads : snapshot_of r.script x ≡ Some name
  pub c : ClientState
  pub here : slice_get clients x.client ≡ Some c
  pub known : known_epoch c.known name ≡ Some e

-- the epoch of an attempt: it was issued to it, or is that of the snapshot at which it reads
pub data IsEpochOf (r : Rules) (w : World) (x : AttemptId) (e : Epoch) : Type 0 where
  IsOwn : IsIssued w x e → IsEpochOf r w x e
  IsSeen : ReadsNamed r w.clients x e → IsEpochOf r w x e

-- a command makes a snapshot, or aggregates
abbrev pub makes : Option Command → Bool
makes None = false
makes (Some (Run ops turns snapshot)) = false
makes (Some (Snap name cont)) = true
makes (Some (Aggregate cont)) = true
makes (Some (Tell client)) = false
makes (Some (Skip turns)) = false

abbrev pub is_making : Rules → AttemptId → Bool
is_making r x = makes (command_of r.script x)

-- a read is asked at a snapshot exactly where its attempt reads at one, and is neither asked nor answered for an attempt that makes a
-- snapshot or aggregates
abbrev pub IsReadOf : Rules → Message → Type 0
IsReadOf r (message.Fetch x op group e first tracker q snapshot) = (snapshot ≡ is_at_snapshot r x) × (is_making r x ≡ false)
IsReadOf r (message.Fetched x op group e b) = is_making r x ≡ false
IsReadOf r m = Unit {0}

-- an epoch goes with a message as its attempt's
abbrev pub GoesWith : Message → AttemptId → Epoch → Type 0
GoesWith (message.Fetch x op group (Some own) first tracker r snapshot) y e = (x ≡ y) × (own ≡ e)
GoesWith m y e = BearsEpoch m y e

-- the epoch of its attempt goes with a message
pub record HasItsEpoch (r : Rules) (w : World) (m : Message) : Type 0 where
  pub x : AttemptId
  pub e : Epoch
  pub bears : GoesWith m x e
  pub known : IsEpochOf r w x e

-- of a run whose opening's epochs are all at or below `top`
pub record Epochs (r : Rules) (top : ℕ) (w : World) : Type 0 where
  pub few : length w.targets ≤ 256
  pub one : (x : AttemptId) (e f : Epoch) → IsIssued w x e → IsIssued w x f → e ≡ f
  pub apart : (x y : AttemptId) (e : Epoch) → IsIssued w x e → IsIssued w y e → x ≡ y
  pub above : (x : AttemptId) (e : Epoch) → IsIssued w x e → top < e.0
  -- none is issued to an attempt that reads at a snapshot
  pub own : (x : AttemptId) (e : Epoch) → IsIssued w x e → is_at_snapshot r x ≡ false
  pub issued_by : (x : AttemptId) (e : Epoch) → IsIssued w x e → e.0 % 256 ≡ issuer_of r.script x
  pub issuer : (x : AttemptId) (e : Epoch) → IsIssued w x e → (s : TargetState) × (slice_get w.targets (e.0 % 256) ≡ Some s)
  pub leased : (x : AttemptId) (e : Epoch) (s : TargetState) → IsIssued w x e → slice_get w.targets (e.0 % 256) ≡ Some s → e.0 / 256 ≤ s.durable.lease
  pub ticks : (x : AttemptId) (e : Epoch) (s : TargetState) → IsIssued w x e → slice_get w.targets (e.0 % 256) ≡ Some s → s.life ≡ Running → e.0 / 256 ≤ s.memory.ticks
  pub line : (x : AttemptId) (e : Epoch) → IsIssued w x e → IsPresent r w x ⊎ HasLine w x e
  -- who asks for an epoch reads at no snapshot and has none yet; the tracker that goes with it covers what the client was told
  pub fresh : (l : Letter) (x : AttemptId) (k : Epoch) → Contains w.messages l → AsksEpoch l.message x k
      → IsPresent r w x × IsUnissued w x × (top ≤ k.0) × ((e : ℕ) → IsTold r w x.client e → e ≤ k.0) × (is_at_snapshot r x ≡ false)
  pub asker : (l : Letter) (x : AttemptId) (k : Epoch) → Contains w.messages l → AsksEpoch l.message x k → l.from ≡ client x.client
  pub asked : (l : Letter) (x : AttemptId) (k : Epoch) → Contains w.messages l → AsksEpoch l.message x k → l.to ≡ target (issuer_of r.script x)
  pub lacking : (l : Letter) (x : AttemptId) → Contains w.messages l → LacksEpoch l.message x → (l.to ≡ client x.client) × IsUnissued w x
  pub dated : (l : Letter) → Contains w.messages l → answers_undated l.message ≡ false
  -- the epochs that go about, that entries have, that go with a parked Fetch, that clients know and that lines show
  pub borne : (l : Letter) (x : AttemptId) (e : Epoch) → Contains w.messages l → GoesWith l.message x e → IsEpochOf r w x e
  pub entered : (t : ℕ) (s : TargetState) (k : Entry) → slice_get w.targets t ≡ Some s → Contains s.durable.entries k → IsIssued w k.attempt k.epoch
  pub parked : (t : ℕ) (s : TargetState) (p : Parked) → slice_get w.targets t ≡ Some s → Contains s.memory.member.parked p → HasItsEpoch r w p.ask × IsReadOf r p.ask
  pub reads : (l : Letter) → Contains w.messages l → IsReadOf r l.message
  pub known : (n : ℕ) (c : ClientState) (a : Present) (e : Epoch) → slice_get w.clients n ≡ Some c → c.present ≡ Some a → a.epoch ≡ Some e → IsEpochOf r w (attempt_id (client_plan r n) c a) e
  pub shown : (a : Attempt) (e : Epoch) → Contains (tries w.lines) a → a.epoch ≡ Some e → IsEpochOf r w a.id e
  -- a client's tracker covers its attempt's own epoch; an attempt of which it knows none reads at no snapshot, and asks next what its
  -- command asks first; and while the client waits for nothing, that has none, and one that makes a snapshot or aggregates has none known
  pub tracked : (n : ℕ) (c : ClientState) (a : Present) (e : Epoch) → slice_get w.clients n ≡ Some c → c.present ≡ Some a → a.epoch ≡ Some e → is_at_snapshot r (attempt_id (client_plan r n) c a) ≡ false
      → e.0 ≤ c.tracker.0
  pub seen : (n : ℕ) (c : ClientState) (a : Present) → slice_get w.clients n ≡ Some c → c.present ≡ Some a → a.epoch ≡ None → is_at_snapshot r (attempt_id (client_plan r n) c a) ≡ false
  pub unasked : (n : ℕ) (c : ClientState) (a : Present) → slice_get w.clients n ≡ Some c → c.present ≡ Some a → a.epoch ≡ None → AsksFirst (attempt_ops r.script (attempt_id (client_plan r n) c a)) a
  pub unknown : (n : ℕ) (c : ClientState) (a : Present) → slice_get w.clients n ≡ Some c → c.present ≡ Some a → a.waits ≡ false → a.epoch ≡ None → IsUnissued w (attempt_id (client_plan r n) c a)
  pub unmade : (n : ℕ) (c : ClientState) (a : Present) → slice_get w.clients n ≡ Some c → c.present ≡ Some a → a.waits ≡ false → is_making r (attempt_id (client_plan r n) c a) ≡ true → a.epoch ≡ None
  pub trackers : (n : ℕ) (c : ClientState) → slice_get w.clients n ≡ Some c → (top ≤ c.tracker.0) × ((e : ℕ) → IsTold r w n e → e ≤ c.tracker.0)
  pub rises : (x : AttemptId) (e : Epoch) (f : ℕ) → IsPresent r w x → IsIssued w x e → IsTold r w x.client f → f < e.0
  pub same_command : (x y : AttemptId) (e f : Epoch) → IsIssued w x e → IsIssued w y f → x.client ≡ y.client → x.command ≡ y.command → y.attempt < x.attempt → f.0 < e.0
  pub past : (a : Attempt) (c : ClientState) → Contains (tries w.lines) a → slice_get w.clients a.id.client ≡ Some c → IsPast c a.id
  pub distinct : AreIssued r.script top w.lines
  pub risen : AllRise r.script w.lines
