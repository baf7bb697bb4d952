-- What a client does in a turn.
use Rattle.std.specs.List.{list_any}
use Rattle.std.specs.Prelude.{ℕ, map, filter, ◌≡◌, ◌+◌, ◌++◌, ◌-◌, Bool, true, false, ◌&&◌, nat_lt, nat_le, max, List, [], ◌∷◌, length, find, slice_get, slice_index_or, Option, Some, None, is_some, if◌then◌else◌}
use Rattle.base_types.specs.declared.answer.Answer.{Answer}
use Rattle.base_types.specs.declared.answer.Answer.TheVariants as answer
use Rattle.base_types.specs.declared.epoch.Epoch.{Epoch}
use Rattle.base_types.specs.declared.id.AttemptId.{AttemptId}
use Rattle.base_types.specs.declared.id.ContId.{ContId}
use Rattle.base_types.specs.declared.id.ObjId.{ObjId}
use Rattle.base_types.specs.declared.operation.Act.TheVariants as act
use Rattle.base_types.specs.declared.operation.Act.{Act}
use Rattle.base_types.specs.declared.operation.Cond.{Cond}
use Rattle.base_types.specs.declared.operation.Cond.TheVariants.{Free, Must, MustNot}
use Rattle.base_types.specs.declared.operation.MinorWrite.{MinorWrite}
use Rattle.base_types.specs.declared.operation.Op.{Op}
use Rattle.base_types.specs.declared.operation.Read.{Read}
use Rattle.base_types.specs.declared.operation.Read.TheVariants.{Exists}
use Rattle.base_types.specs.declared.outcome.Cause.TheVariants.{Unresolved}
use Rattle.base_types.specs.declared.outcome.Outcome.{Outcome}
use Rattle.base_types.specs.declared.outcome.Outcome.TheVariants as outcome
use Rattle.base_types.specs.declared.report.Line.{Line}
use Rattle.base_types.specs.declared.report.Line.TheVariants.{Try}
use Rattle.base_types.specs.declared.script.Command.{Command}
use Rattle.base_types.specs.declared.script.Command.TheVariants.{Run, Snap, Aggregate, Tell, Skip}
use Rattle.base_types.specs.declared.script.OldDecl.{OldDecl}
use Rattle.base_types.specs.declared.script.Script.{Script}
use Rattle.base_types.specs.declared.snapshot.Snap as frozen
use Rattle.base_types.specs.Keys.{same_key}
use Rattle.base_types.specs.Operations.{read_path}
use Rattle.base_types.specs.Placement.{group_of, groups, writes_leader}
use Rattle.model_laws.specs.Groups.{join_two}
use Rattle.base_messages.specs.declared.message.Message.{Message, more_of-Message}
use Rattle.base_messages.specs.declared.message.Message.TheVariants as message
use Rattle.base_messages.specs.declared.message.Post.{Post}
use Rattle.base_messages.specs.declared.message.Reply.{Reply}
use Rattle.base_messages.specs.declared.message.Reply.TheVariants as reply
use Rattle.daos_model.specs.Accesses.{asked_member, minor_writes, op_path}
use Rattle.daos_model.specs.Attempts.{is_restart, snapshot_of_command}
use Rattle.daos_model.specs.Conditions.{holds_where}
use Rattle.daos_model.specs.Durables.{is_snap_at, same_attempt}
use Rattle.daos_model.specs.Order.{told_by}
use Rattle.daos_model.specs.Transactions.{ops_of}
use Rattle.world_base.specs.declared.client.ClientPlan.{ClientPlan}
use Rattle.world_base.specs.declared.client.ClientState.{ClientState}
use Rattle.world_base.specs.declared.client.KnownSnap.{KnownSnap}
use Rattle.world_base.specs.declared.client.Present.{Present}
use Rattle.world_base.specs.declared.client.Stage.{Stage}
use Rattle.world_base.specs.declared.client.Stage.TheVariants as stage
use Rattle.world_base.specs.declared.did.Did.{Did}

-- ---- where a client is

abbrev pub attempt_id : ClientPlan → ClientState → Present → AttemptId
attempt_id p c a = record { client = p.number; command = c.command; attempt = a.attempt }

abbrev pub is_waiting : Option Present → Bool
is_waiting None = false
is_waiting (Some a) = a.waits

-- it waits for a message
abbrev pub waits : ClientState → Bool
waits c = is_waiting c.present

-- all its commands are over
abbrev pub is_done : ClientPlan → ClientState → Bool
is_done p c = nat_le (length p.commands) c.place

-- the command that it is at
abbrev pub command_at : ClientPlan → ClientState → Option Command
command_at p c = slice_get p.commands c.place

-- ---- a move, of which a turn has one after another until one ends it

-- what it sends and the line that it adds, if any; whether the turn is over; and what the client then is
pub record Move : Type 0 where
  pub post : Option Post
  pub line : Option Line
  pub over : Bool
  pub state : ClientState

-- it goes on
abbrev pub goes : ClientState → Move
goes c = record { post = None; line = None; over = false; state = c }

-- its turn is over
abbrev pub rests : ClientState → Move
rests c = record { post = None; line = None; over = true; state = c }

-- it does nothing for some turns, of which this isn't one
abbrev pub skips : ℕ → ClientState → Move
skips turns c = record { post = None; line = None; over = nat_lt 0 turns; state = record c { skip = turns } }

abbrev pub at_present : Present → ClientState → ClientState
at_present a c = record c { present = Some a }

-- it sends a message to a target, and waits for the answer
abbrev pub asks : ℕ → Message → Present → ClientState → Move
asks target m a c = record {
  post = Some (record { to = record { client = false; number = target }; message = m });
  line = None;
  over = true;
  state = at_present (record a { waits = true }) c;
}

-- ---- attempts begin and end

-- a new attempt: nothing of it is done
abbrev pub begun : ℕ → Option Epoch → Option Epoch → Present
begun attempt first epoch = record {
  attempt = attempt;
  first = first;
  epoch = epoch;
  op = 0;
  stage = stage.Skip;
  group = 0;
  found = None;
  conds = [];
  gots = [];
  waits = false;
}

abbrev pub epoch_of_known : Option KnownSnap → Option Epoch
epoch_of_known None = None
epoch_of_known (Some k) = Some k.epoch

abbrev pub is_known_as : List ℕ → KnownSnap → Bool
is_known_as name k = same_key name k.name

-- the epoch of the snapshot of this name, if the client may read it
abbrev pub known_epoch : List KnownSnap → List ℕ → Option Epoch
known_epoch known name = epoch_of_known (find (is_known_as name) known)

-- the epoch with which an attempt begins: a snapshot read has that of its snapshot
abbrev pub first_epoch : List KnownSnap → Option (List ℕ) → Option Epoch
first_epoch known None = None
first_epoch known (Some name) = known_epoch known name

-- the command is over
abbrev pub next_command : ClientState → ClientState
next_command c = record c { place = c.place + 1; command = c.command + 1; present = None }

-- a command without a number is over
abbrev pub next_place : ClientState → ClientState
next_place c = record c { place = c.place + 1 }

-- the line of an attempt that ends
abbrev pub end_line : ClientPlan → ClientState → Present → Outcome → Line
end_line p c a how = Try (record { id = attempt_id p c a; epoch = a.epoch; conds = a.conds; gots = a.gots; outcome = how })

-- an attempt is over: the next one of its command begins where it is told to restart and one is left; else the command is
-- over
abbrev pub after_end : ClientPlan → ClientState → Option Command → Present → Outcome → ClientState
after_end p c None a how = next_command c
after_end p c (Some d) a how =
    if is_restart how && nat_lt (a.attempt + 1) p.attempts then at_present (begun (a.attempt + 1) a.first (first_epoch c.known (snapshot_of_command d))) c
    else next_command c

abbrev pub ends : ClientPlan → ClientState → Present → Outcome → Move
ends p c a how = record { post = None; line = Some (end_line p c a how); over = false; state = after_end p c (command_at p c) a how }

-- a command begins with its attempt 0; a read at a snapshot that the client doesn't know ends at once
abbrev pub begins_at : ClientPlan → ClientState → Option (List ℕ) → Option Epoch → Move
begins_at p c None epoch = goes (at_present (begun 0 None None) c)
begins_at p c (Some name) None = ends p c (begun 0 None None) outcome.NoSnapshot
begins_at p c (Some name) (Some e) = goes (at_present (begun 0 None (Some e)) c)

abbrev pub begins : ClientPlan → ClientState → Option (List ℕ) → Move
begins p c snapshot = begins_at p c snapshot (first_epoch c.known snapshot)

-- ---- questions

-- how many groups are asked about an object: one where there is a dkey, else all
abbrev pub group_count : Option ObjId → Option (List ℕ) → ℕ → ℕ
group_count None dkey targets = 0
group_count (Some o) None targets = groups o.class targets
group_count (Some o) (Some dkey) targets = 1

-- the group that is asked as the one of this number
abbrev pub group_asked : Option ObjId → Option (List ℕ) → ℕ → ℕ → ℕ
group_asked None dkey targets n = n
group_asked (Some o) None targets n = n
group_asked (Some o) (Some dkey) targets n = group_of o.class dkey targets

-- the member of a group that a command of this number asks
abbrev pub member_asked : Option ObjId → ℕ → ℕ → ℕ → ℕ
member_asked None command targets group = 0
member_asked (Some o) command targets group = asked_member o command targets group

-- a read is asked of the next of its groups
abbrev pub asks_group : ClientPlan → ClientState → Present → Bool → Read → ℕ → Move
asks_group p c a snapshot r group =
    asks (member_asked (read_path r).obj c.command p.targets group)
    (message.Fetch (attempt_id p c a) a.op group a.epoch a.first c.tracker r snapshot) a c

abbrev pub asks_read : ClientPlan → ClientState → Present → Bool → Read → Move
asks_read p c a snapshot r = asks_group p c a snapshot r (group_asked (read_path r).obj (read_path r).dkey p.targets a.group)

-- ---- a transaction

-- what is asked of an operation at a stage: its condition is asked first, then its read
abbrev pub condition_read : Op → Cond → Option Read
condition_read op Free = None
condition_read op Must = Some (Exists (op_path op))
condition_read op MustNot = Some (Exists (op_path op))

abbrev pub act_read : Act → Option Read
act_read (act.Fetch r) = Some r
act_read (act.Change w) = None

abbrev pub question : Stage → Op → Option Read
question stage.Skip op = None
question stage.Cond op = condition_read op op.cond
question stage.Act op = act_read op.act

-- the operation is over; a write is kept back until the end
abbrev pub next_op : Present → Present
next_op a = record a { op = a.op + 1; stage = stage.Skip; group = 0; found = None }

-- the next stage of an operation, which isn't asked anything at this one
abbrev pub next_stage : Stage → Present → Present
next_stage stage.Skip a = record a { stage = stage.Cond }
next_stage stage.Cond a = record a { stage = stage.Act; group = 0; found = None }
next_stage stage.Act a = next_op a

-- the turns to skip before an operation, or before the end
abbrev pub skip_at : List ℕ → ℕ → ℕ
skip_at turns n = slice_index_or turns n 0

-- the end of a transaction: without writes it is committed; else its writes go to their leader
abbrev pub commits : ClientPlan → ClientState → Present → List MinorWrite → Move
commits p c a [] = ends p c a outcome.Committed
commits p c a (w ∷ ws) = asks (writes_leader (w ∷ ws) p.targets) (message.Commit (attempt_id p c a) a.epoch a.first c.tracker (w ∷ ws)) a c

abbrev pub asks_or_goes : ClientPlan → ClientState → Present → Bool → Option Read → Move
asks_or_goes p c a snapshot None = goes (at_present (next_stage a.stage a) c)
asks_or_goes p c a snapshot (Some r) = asks_read p c a snapshot r

-- behind its skip, the operation asks what it asks at this stage; behind the last there is the end
abbrev pub op_moves : ClientPlan → ClientState → Present → List Op → Bool → Option Op → Move
op_moves p c a ops snapshot None = commits p c a (minor_writes 0 ops)
op_moves p c a ops snapshot (Some op) = asks_or_goes p c a snapshot (question a.stage op)

abbrev pub run_moves : ClientPlan → ClientState → Present → List Op → List ℕ → Bool → Stage → Move
run_moves p c a ops turns snapshot stage.Skip = skips (skip_at turns a.op) (at_present (next_stage stage.Skip a) c)
run_moves p c a ops turns snapshot stage.Cond = op_moves p c a ops snapshot (slice_get ops a.op)
run_moves p c a ops turns snapshot stage.Act = op_moves p c a ops snapshot (slice_get ops a.op)

-- ---- going on

-- an attempt goes on: a snapshot and an aggregation are asked of target 0
abbrev pub attempt_moves : ClientPlan → ClientState → Present → Command → Move
attempt_moves p c a (Run ops turns snapshot) = run_moves p c a ops turns (is_some snapshot) a.stage
attempt_moves p c a (Snap name cont) = asks 0 (message.Snap (attempt_id p c a) cont name c.tracker) a c
attempt_moves p c a (Aggregate cont) = asks 0 (message.Prune (attempt_id p c a) cont (Some c.tracker) None) a c
attempt_moves p c a (Tell client) = rests c
attempt_moves p c a (Skip turns) = rests c

-- a command begins: another client is told the tracker, turns are skipped, or there is a first attempt
abbrev pub command_moves : ClientPlan → ClientState → Command → Move
command_moves p c (Run ops turns snapshot) = begins p c snapshot
command_moves p c (Snap name cont) = begins p c None
command_moves p c (Aggregate cont) = begins p c None
command_moves p c (Tell client) = record {
  post = Some (record { to = record { client = true; number = client }; message = message.Tell c.tracker });
  line = None;
  over = false;
  state = next_place c;
}
command_moves p c (Skip turns) = skips turns (next_place c)

abbrev pub moves_at : ClientPlan → ClientState → Option Command → Option Present → Move
moves_at p c None present = rests c
moves_at p c (Some d) None = command_moves p c d
moves_at p c (Some d) (Some a) = attempt_moves p c a d

-- the next move of a client that goes on; one that waits rests
unfoldable pub moved : ClientPlan → ClientState → Move
moved p c = if waits c then rests c else moves_at p c (command_at p c) c.present

-- ---- hearing

-- the epochs that a message tells a client, in a cause too
abbrev pub told_by_reply : Reply → List ℕ
told_by_reply (reply.Answer a) = []
told_by_reply (reply.Outcome how) = told_by how

abbrev pub told_by_some : Option Epoch → List ℕ
told_by_some None = []
told_by_some (Some e) = e.0 ∷ []

abbrev pub told_by_message : Message → List ℕ
told_by_message (message.Fetched x op group e reply) = told_by_some e ++ told_by_reply reply
told_by_message (message.Ended x e how) = told_by_some e ++ told_by how
told_by_message (message.Tell tracker) = tracker.0 ∷ []
told_by_message m = []

unfoldable pub greatest : ℕ → List ℕ → ℕ
greatest t [] = t
greatest t (e ∷ es) = greatest (max t e) es

-- the tracker once a message was heard
abbrev pub hears_epochs : Message → ClientState → ClientState
hears_epochs m c = record c { tracker = record { 0 = greatest c.tracker.0 (told_by_message m) } }

-- the attempt whose request a message is
abbrev pub request_of : Message → Option AttemptId
request_of (message.Fetch x op group e first tracker r snapshot) = Some x
request_of (message.Commit x e first tracker ws) = Some x
request_of (message.Ask x) = Some x
request_of (message.Snap x cont name tracker) = Some x
request_of (message.Prune x cont tracker e) = Some x
request_of m = None

-- the client hears of the epoch that was issued to its attempt
abbrev pub knows_epoch : Option Epoch → Option Epoch → Option Epoch
knows_epoch None e = e
knows_epoch (Some own) e = Some own

abbrev pub knows : Option Epoch → Present → Present
knows e a = record a { epoch = knows_epoch a.epoch e; first = if is_some a.epoch then a.first else knows_epoch a.first e; waits = false }

-- a group's answer joins what the groups before it answered
abbrev pub joined : Option Answer → Answer → Answer
joined None b = b
joined (Some a) b = join_two a b

abbrev pub is_yes : Answer → Bool
is_yes (answer.Bytes bytes) = false
is_yes (answer.Parts pieces) = false
is_yes (answer.Names keys) = false
is_yes answer.Yes = true
is_yes answer.No = false
is_yes answer.Absent = false

-- a condition is answered: the operation goes on where it holds; else the attempt ends
abbrev pub condition_told : ClientPlan → ClientState → Present → Cond → Bool → Move
condition_told p c a cond there =
    if holds_where there cond then goes (at_present (next_stage stage.Cond (record a { conds = a.conds ++ (a.op, there) ∷ [] })) c)
    else ends p c (record a { conds = a.conds ++ (a.op, there) ∷ [] }) (outcome.CondFailed a.op)

-- a read is answered: its operation is over
abbrev pub read_told : ClientState → Present → Answer → Move
read_told c a b = goes (at_present (next_op (record a { gots = a.gots ++ (a.op, b) ∷ [] })) c)

abbrev pub told_at : ClientPlan → ClientState → Present → Cond → Stage → Answer → Move
told_at p c a cond stage.Skip b = goes (at_present a c)
told_at p c a cond stage.Cond b = condition_told p c a cond (is_yes b)
told_at p c a cond stage.Act b = read_told c a b

-- a group answers a question: the next group is asked, or the question is answered
abbrev pub group_told : ClientPlan → ClientState → Present → Op → Answer → Move
group_told p c a op b =
    if nat_lt (a.group + 1) (group_count (op_path op).obj (op_path op).dkey p.targets)
    then goes (at_present (record a { group = a.group + 1; found = Some (joined a.found b) }) c)
    else told_at p c a op.cond a.stage (joined a.found b)

abbrev pub op_told : ClientPlan → ClientState → Present → Answer → Option Op → Move
op_told p c a b None = goes (at_present a c)
op_told p c a b (Some op) = group_told p c a op b

abbrev pub op_of : Option Command → ℕ → Option Op
op_of None n = None
op_of (Some d) n = slice_get (ops_of d) n

-- an attempt's read or condition is answered, or how the attempt ended
abbrev pub replied : ClientPlan → ClientState → Present → Reply → Move
replied p c a (reply.Answer b) = op_told p c a b (op_of (command_at p c) a.op)
replied p c a (reply.Outcome how) = ends p c a how

-- a client knows the snapshot that it made
abbrev pub snaps_known : Option Command → Option Epoch → Outcome → List KnownSnap → List KnownSnap
snaps_known (Some (Snap name cont)) (Some e) outcome.Committed known = known ++ record { name = name; epoch = e } ∷ []
snaps_known d e how known = known

abbrev pub ended : ClientPlan → ClientState → Present → Option Epoch → Outcome → Move
ended p c a e how = ends p (record c { known = snaps_known (command_at p c) e how c.known }) a how

abbrev pub asks_again : ClientPlan → ClientState → Present → ℕ → Move
asks_again p c a target = asks target (message.Ask (attempt_id p c a)) a c

abbrev pub lost : ClientPlan → ClientState → Present → Move
lost p c a = ends p c a (outcome.Restart (Unresolved (attempt_id p c a)))

-- a request is lost at a target that stopped: of an attempt's writes the client asks what became of them; else the
-- attempt is over
abbrev pub reset : ClientPlan → ClientState → Present → ℕ → Message → Move
reset p c a target (message.Commit x e first tracker ws) = asks_again p c a target
reset p c a target (message.Ask x) = asks_again p c a target
reset p c a target m = lost p c a

abbrev pub reset_by : ClientPlan → ClientState → Present → ℕ → Bool → Message → Move
reset_by p c a target false m = reset p c a target m
reset_by p c a target true m = ends p c a (outcome.Unknown target)

-- the attempt that a message to a client is about: its read or its end, or its request that is lost
abbrev pub about : Message → Option AttemptId
about (message.Fetched x op group e reply) = Some x
about (message.Ended x e how) = Some x
about (message.Reset' target down place (more_of-Message m rest)) = request_of m
about m = None

-- what a client waits for has come
abbrev pub answered : ClientPlan → ClientState → Present → Message → Move
answered p c a (message.Fetched x op group e reply) = replied p c (knows e a) reply
answered p c a (message.Ended x e how) = ended p c (knows e a) e how
answered p c a (message.Reset' target down place (more_of-Message m rest)) = reset_by p c (record a { waits = false }) target down m
answered p c a m = goes c

abbrev pub is_about : AttemptId → Option AttemptId → Bool
is_about x None = false
is_about x (Some y) = same_attempt x y

-- a message of another attempt than the one that the client is at, or that it doesn't wait for, tells it epochs alone
abbrev pub heard_at : ClientPlan → ClientState → Message → Option Present → Move
heard_at p c m None = goes c
heard_at p c m (Some a) = if a.waits && is_about (attempt_id p c a) (about m) then answered p c a m else goes c

-- a client hears a message
unfoldable pub heard : ClientPlan → ClientState → Message → Move
heard p c m = heard_at p (hears_epochs m c) m c.present

-- ---- a turn

abbrev pub listed : {A : Type 0} → Option A → List A
listed None = []
listed (Some x) = x ∷ []

-- from a state on, by moves that don't end the turn: what was sent, the lines, and the state reached
pub data Moves (p : ClientPlan) (c : ClientState) : List Post → List Line → ClientState → Type 0 where
  None_yet : Moves p c [] [] c
  One_more : (posts : List Post) (lines : List Line) (d : ClientState) → Moves p c posts lines d → (moved p d).over ≡ false
      → Moves p c (posts ++ listed (moved p d).post) (lines ++ listed (moved p d).line) (moved p d).state

-- A client goes on: move by move, up to one that ends its turn.
pub record GoesOn (p : ClientPlan) (c : ClientState) (posts : List Post) (lines : List Line) (d : ClientState) : Type 0 where
  pub sent : List Post
  pub told : List Line
  pub last : ClientState
  pub moves : Moves p c sent told last
  pub over : (moved p last).over ≡ true
  pub all_sent : posts ≡ sent ++ listed (moved p last).post
  pub all_told : lines ≡ told ++ listed (moved p last).line
  pub reached : d ≡ (moved p last).state

abbrev pub skip_counted : ClientState → ClientState
skip_counted c = record c { skip = c.skip - 1 }

-- what follows from a turn of a client: messages and lines; it issues no epoch
pub record ClientDid (p : ClientPlan) (c : ClientState) (did : Did) (d : ClientState) : Type 0 where
  pub goes_on : GoesOn p c did.posts did.lines d
  pub issued : did.issued ≡ None

-- a turn without a message: a turn that is skipped is counted; else the client goes on
pub data NextTurn (p : ClientPlan) (c : ClientState) (did : Did) (d : ClientState) : Type 0 where
  Skipped : nat_lt 0 c.skip ≡ true → did ≡ record { posts = []; lines = []; issued = None } → d ≡ skip_counted c → NextTurn p c did d
  Went_on : nat_lt 0 c.skip ≡ false → ClientDid p c did d → NextTurn p c did d

abbrev pub with_first : Move → Did → Did
with_first m did = record { posts = listed m.post ++ did.posts; lines = listed m.line ++ did.lines; issued = did.issued }

-- a turn in which a message is heard: the client hears it, and goes on unless that ended its turn
pub data HearTurn (p : ClientPlan) (c : ClientState) (m : Message) (did : Did) (d : ClientState) : Type 0 where
  Ended_by : (heard p c m).over ≡ true → did ≡ record { posts = listed (heard p c m).post; lines = listed (heard p c m).line; issued = None } → d ≡ (heard p c m).state → HearTurn p c m did d
  Heard_on : (rest : Did) → (heard p c m).over ≡ false → ClientDid p (heard p c m).state rest d → did ≡ with_first (heard p c m) rest → HearTurn p c m did d

-- ---- the beginning of a run

abbrev pub is_created_at : ContId → Epoch → frozen.Snap → Bool
is_created_at c e x = is_snap_at c e x && x.created

-- an old snapshot that the opening holds as created
abbrev pub is_created_old : List frozen.Snap → OldDecl → Bool
is_created_old opening d = list_any (is_created_at d.cont d.epoch) opening

abbrev pub known_of : OldDecl → KnownSnap
known_of d = record { name = d.name; epoch = d.epoch }

-- the snapshots of earlier runs that a client may read: those that the script names and the opening holds as created
abbrev pub known_at_opening : List OldDecl → List frozen.Snap → List KnownSnap
known_at_opening olds opening = map known_of (filter (is_created_old opening) olds)

-- what the client of this number has to do in a run of a script
abbrev pub plan_of : Script → ℕ → ℕ → List Command → ClientPlan
plan_of s number attempts commands = record { number = number; targets = s.targets; attempts = attempts; commands = commands }

-- a client before its first turn
abbrev pub at_first : Script → List frozen.Snap → Epoch → ClientState
at_first s opening tracker = record { place = 0; command = 0; tracker = tracker; skip = 0; present = None; known = known_at_opening s.olds opening }
