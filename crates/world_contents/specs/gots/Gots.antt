-- Every answer that a client was told, and every condition, is the join, over the groups in order, of reads that targets served.
use Rattle.std.specs.Prelude.{ℕ, ◌≡◌, ◌<◌, ◌+◌, max, Bool, true, List, slice_get, All, Contains, Option, Some, None}
use Rattle.base_types.specs.declared.answer.Answer.{Answer}
use Rattle.base_types.specs.declared.epoch.Epoch.{Epoch}
use Rattle.base_types.specs.declared.id.AttemptId.{AttemptId}
use Rattle.base_types.specs.declared.operation.Op.{Op}
use Rattle.base_types.specs.declared.operation.Read.{Read}
use Rattle.base_types.specs.declared.operation.Read.TheVariants.{Exists}
use Rattle.base_types.specs.declared.path.Path.{Path}
use Rattle.base_types.specs.declared.report.Attempt.{Attempt}
use Rattle.base_types.specs.Operations.{read_path}
use Rattle.model_laws.specs.Members.{Has}
use Rattle.base_messages.specs.declared.message.Message.TheVariants.{Fetched}
use Rattle.base_messages.specs.declared.message.Reply.TheVariants as reply
use Rattle.daos_model.specs.Accesses.{is_condition, op_path}
use Rattle.daos_model.specs.Attempts.{tries}
use Rattle.daos_model.specs.Transactions.{attempt_ops, read_at}
use Rattle.world_commit.specs.world_base.declared.client.ClientPlan.{ClientPlan}
use Rattle.world_commit.specs.world_base.declared.client.ClientState.{ClientState}
use Rattle.world_commit.specs.world_base.declared.client.Present.{Present}
use Rattle.world_commit.specs.world_base.declared.letter.Letter.{Letter}
use Rattle.world_commit.specs.world_base.declared.world.World.{World}
use Rattle.world_commit.specs.world_base.ClientTurns.{attempt_id, group_asked, group_count, is_yes, joined, knows_epoch, question}
use Rattle.world_commit.specs.world_letters.clients.Answered.{ops_here}
use Rattle.world_commit.specs.world_base.Events.{Rules, client_plan}
use Rattle.world_commit.specs.world_base.Letters.{client}
use Rattle.world_commit.specs.attempts.History.{History, Served}

-- ---- one group, and several

-- a target served an attempt a read of a group, for the operation of this number, at the epoch that is known of the attempt
pub record IsServedTo (h : History) (x : AttemptId) (op group : ℕ) (read : Read) (answer : Answer) (known : Option Epoch) : Type 0 where
  pub q : Served
  pub among : Has q h.served
  pub of_attempt : q.by ≡ x
  pub of_op : q.op ≡ op
  pub of_group : q.group ≡ group
  pub asked : q.read ≡ read
  pub gave : q.answer ≡ answer
  pub at : known ≡ Some q.epoch

-- the group of a read's path that is asked as the one of this number
abbrev pub group_at : Read → ℕ → ℕ → ℕ
group_at read targets n = group_asked (read_path read).obj (read_path read).dkey targets n

-- how many groups are asked about a path: one at least
abbrev pub groups_asked : Path → ℕ → ℕ
groups_asked p targets = max 1 (group_count p.obj p.dkey targets)

-- what so many groups gave, in order, joined one after another
pub data AreJoined (h : History) (x : AttemptId) (targets op : ℕ) (read : Read) (known : Option Epoch) : ℕ → Option Answer → Type 0 where
  NoneYet : AreJoined h x targets op read known 0 None
  OneMore : (n : ℕ) (found : Option Answer) (b : Answer) → AreJoined h x targets op read known n found → IsServedTo h x op (group_at read targets n) read b known
      → AreJoined h x targets op read known (n + 1) (Some (joined found b))

-- an answer is what all the groups of a read's path gave, joined
abbrev pub IsJoined : History → AttemptId → ℕ → ℕ → Read → Option Epoch → Answer → Type 0
IsJoined h x targets op read known b = AreJoined h x targets op read known (groups_asked (read_path read) targets) (Some b)

-- ---- what an attempt was told

-- the operation of this number is a read, and what is told of it is what its groups gave
pub record IsGot (h : History) (x : AttemptId) (targets : ℕ) (ops : List Op) (known : Option Epoch) (got : ℕ × Answer) : Type 0 where
  pub read : Read
  pub is_read : read_at ops got.0 ≡ Some read
  pub joins : IsJoined h x targets got.0 read known got.1

-- the operation of this number has a condition, and what is told of it is whether a group of its path has a cell there
pub record IsTold (h : History) (x : AttemptId) (targets : ℕ) (ops : List Op) (known : Option Epoch) (told : ℕ × Bool) : Type 0 where
  pub op : Op
  pub at : slice_get ops told.0 ≡ Some op
  pub conditional : is_condition op.cond ≡ true
  pub found : Answer
  pub joins : IsJoined h x targets told.0 (Exists (op_path op)) known found
  pub says : told.1 ≡ is_yes found

-- all that an attempt was told
pub record AreServed (h : History) (x : AttemptId) (targets : ℕ) (ops : List Op) (known : Option Epoch) (answers : List (ℕ × Answer)) (conditions : List (ℕ × Bool)) : Type 0 where
  pub gots : All (IsGot h x targets ops known) answers
  pub conds : All (IsTold h x targets ops known) conditions

-- what a present attempt has found at its stage: nothing, since no group was asked yet; or what the groups gave that were
-- asked, of which there are more
pub data IsFound (h : History) (x : AttemptId) (targets : ℕ) (ops : List Op) (a : Present) : Type 0 where
  Nothing : a.group ≡ 0 → a.found ≡ None → IsFound h x targets ops a
  Found : (op : Op) (read : Read) → slice_get ops a.op ≡ Some op → question a.stage op ≡ Some read → a.group < groups_asked (read_path read) targets
      → AreJoined h x targets a.op read a.epoch a.group a.found → IsFound h x targets ops a

-- what a present attempt was told, and has found, was served to it
pub record IsServedSoFar (h : History) (x : AttemptId) (targets : ℕ) (ops : List Op) (a : Present) : Type 0 where
  pub told : AreServed h x targets ops a.epoch a.gots a.conds
  pub found : IsFound h x targets ops a

-- ---- in the world

-- an answer on its way, which bears an epoch, was served to the attempt that waits for it: it is of what that asks
pub record IsServedAnswer (p : ClientPlan) (h : History) (c : ClientState) (a : Present) (own : Option Epoch) (b : Answer) : Type 0 where
  pub op : Op
  pub read : Read
  pub at : slice_get (ops_here p c) a.op ≡ Some op
  pub asks : question a.stage op ≡ Some read
  pub served : IsServedTo h (attempt_id p c a) a.op (group_at read p.targets a.group) read b (knows_epoch a.epoch own)

-- what a line tells of an attempt was served to it
abbrev pub IsLineServed : Rules → History → Attempt → Type 0
IsLineServed r h a = AreServed h a.id r.script.targets (attempt_ops r.script a.id) a.epoch a.gots a.conds

-- what clients were told was served: what the present attempts were, what the lines tell, and what is on its way
pub record Gots (r : Rules) (h : History) (w : World) : Type 0 where
  pub present : (n : ℕ) (c : ClientState) (a : Present) → slice_get w.clients n ≡ Some c → c.present ≡ Some a
      → IsServedSoFar h (attempt_id (client_plan r n) c a) r.script.targets (ops_here (client_plan r n) c) a
  pub lines : All (IsLineServed r h) (tries w.lines)
  pub flying : (n : ℕ) (c : ClientState) (a : Present) (l : Letter) (x : AttemptId) (op group : ℕ) (own : Option Epoch) (b : Answer) → slice_get w.clients n ≡ Some c → c.present ≡ Some a
      → Contains w.messages l → l.to ≡ client n → l.message ≡ Fetched x op group own (reply.Answer b) → IsServedAnswer (client_plan r n) h c a own b

-- all that was served is
abbrev pub Remembers : History → History → Type 0
Remembers h k = (q : Served) → Has q h.served → Has q k.served
