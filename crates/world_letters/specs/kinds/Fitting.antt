-- What a client tells of its answers and conditions, and what may go about of its reads.
use Rattle.std.specs.Prelude.{ℕ, ◌≡◌, ◌≤◌, ◌<◌, ◌+◌, ◌⊎◌, Bool, true, false, All, List, slice_get, Option, Some, None}
use Rattle.base_types.specs.declared.answer.Answer.{Answer}
use Rattle.base_types.specs.declared.id.AttemptId.{AttemptId}
use Rattle.base_types.specs.declared.operation.Op.{Op}
use Rattle.base_types.specs.declared.operation.Read.{Read}
use Rattle.base_types.specs.declared.report.Attempt.{Attempt}
use Rattle.base_types.specs.declared.report.Line.{Line}
use Rattle.base_types.specs.declared.script.Script.{Script}
use Rattle.base_messages.specs.declared.message.Post.{Post}
use Rattle.daos_model.specs.Accesses.{is_condition}
use Rattle.daos_model.specs.Attempts.{tries}
use Rattle.daos_model.specs.Kinds.{is_of_kind}
use Rattle.daos_model.specs.Transactions.{attempt_ops, ops_or_none, read_at}
use Rattle.world_base.specs.declared.client.ClientPlan.{ClientPlan}
use Rattle.world_base.specs.declared.client.ClientState.{ClientState}
use Rattle.world_base.specs.declared.client.Present.{Present}
use Rattle.world_base.specs.declared.client.Stage.{Stage}
use Rattle.world_base.specs.ClientTurns.{Move, listed, question}
use Rattle.world_letters.specs.clients.Answered.{ops_numbered}
use Rattle.world_letters.specs.clients.Standing.{number_of, tells}
use Rattle.world_letters.specs.kinds.Loads.{post_load, total}

-- ---- what is told

-- the operation of this number is a read, and this is an answer of its kind
abbrev pub IsOfItsRead : List Op → ℕ × Answer → Type 0
IsOfItsRead ops got = (r : Read) × (read_at ops got.0 ≡ Some r) × (is_of_kind r got.1 ≡ true)

-- the operation of this number has a condition
abbrev pub HasCondition : List Op → ℕ × Bool → Type 0
HasCondition ops told = (op : Op) × (slice_get ops told.0 ≡ Some op) × (is_condition op.cond ≡ true)

-- answers and conditions are told of operations that ask for them, and each answer is of the kind of its read
pub record AreOfOps (ops : List Op) (conds : List (ℕ × Bool)) (gots : List (ℕ × Answer)) : Type 0 where
  pub conditions : All (HasCondition ops) conds
  pub answers : All (IsOfItsRead ops) gots

-- so it is with what an attempt tells, by the command that its id names in the script
abbrev pub AnswersFit : Script → Attempt → Type 0
AnswersFit s a = AreOfOps (attempt_ops s a.id) a.conds a.gots

-- and with all that lines tell
abbrev pub AllAnswersFit : Script → List Line → Type 0
AllAnswersFit s lines = All (AnswersFit s) (tries lines)

-- so it is with an attempt of a client
pub record IsFittingOf (p : ClientPlan) (a : Attempt) : Type 0 where
  pub own : a.id.client ≡ p.number
  pub fits : AreOfOps (ops_numbered p a.id.command) a.conds a.gots

-- ---- what goes about

-- how much goes about of each attempt and read
abbrev pub Loads : Type 0
Loads = AttemptId → Read → ℕ

-- the read whose answer an operation asks for at this stage
abbrev pub asked_at : Stage → Option Op → Option Read
asked_at s None = None
asked_at s (Some op) = question s op

-- of an attempt that waits for the answer of a read one letter goes about at most, which is of that read; of any other, none
abbrev pub OneGoesAbout : Loads → AttemptId → Bool → Option Read → Type 0
OneGoesAbout w x true (Some r) = w x r ≤ 1
OneGoesAbout w x true None = (r : Read) → w x r ≡ 0
OneGoesAbout w x false q = (r : Read) → w x r ≡ 0

-- what the groups answered so far is of the kind of what is asked
abbrev pub IsPartOf : Option Read → Option Answer → Type 0
IsPartOf None found = found ≡ None
IsPartOf (Some r) None = Unit {0}
IsPartOf (Some r) (Some b) = is_of_kind r b ≡ true

-- a present attempt with these operations
pub record IsPresentFitting (ops : List Op) (x : AttemptId) (w : Loads) (a : Present) : Type 0 where
  pub about : OneGoesAbout w x a.waits (asked_at a.stage (slice_get ops a.op))
  pub part : IsPartOf (asked_at a.stage (slice_get ops a.op)) a.found
  pub told : AreOfOps ops a.conds a.gots

-- the operations of the command at a place, and the id of a present attempt of a command
abbrev pub ops_at : ClientPlan → ℕ → List Op
ops_at p place = ops_or_none (slice_get p.commands place)

abbrev pub id_of : ClientPlan → ℕ → Present → AttemptId
id_of p command a = record { client = p.number; command = command; attempt = a.attempt }

abbrev pub IsFittingHere : ClientPlan → ℕ → ℕ → Loads → Option Present → Type 0
IsFittingHere p place command w None = Unit {0}
IsFittingHere p place command w (Some a) = IsPresentFitting (ops_at p place) (id_of p command a) w a

-- an attempt that a client isn't at yet
abbrev pub IsToCome : ℕ → Option ℕ → AttemptId → Type 0
IsToCome command None y = command ≤ y.command
IsToCome command (Some n) y = (command < y.command) ⊎ ((command ≡ y.command) × (n < y.attempt))

abbrev pub NoneToCome : Loads → ℕ → ℕ → Option ℕ → Type 0
NoneToCome w client command present = (y : AttemptId) → y.client ≡ client → IsToCome command present y → (r : Read) → w y r ≡ 0

-- Of a client's attempts nothing goes about but what it waits for, and what its present one was told fits.
pub record IsFittingAt (p : ClientPlan) (place command : ℕ) (present : Option Present) (w : Loads) : Type 0 where
  pub here : IsFittingHere p place command w present
  pub to_come : NoneToCome w p.number command (number_of present)

abbrev pub IsFittingClient : ClientPlan → ClientState → Loads → Type 0
IsFittingClient p c w = IsFittingAt p c.place c.command c.present w

-- ---- turns

-- what goes about once these are posted too
abbrev pub with_posts : List Post → Loads → Loads
with_posts posts w = λ x r. w x r + total (post_load x r) posts

-- these posts carry nothing of another client's reads
abbrev pub AreOwn : ℕ → List Post → Type 0
AreOwn client posts = (y : AttemptId) → (y.client ≡ client → ⊥) → (r : Read) → total (post_load y r) posts ≡ 0

-- what a client's turn leaves, with what it posts and tells in it
pub record LeavesFitting (p : ClientPlan) (w : Loads) (c : ClientState) (posts : List Post) (attempts : List Attempt) : Type 0 where
  pub client : IsFittingClient p c (with_posts posts w)
  pub own : AreOwn p.number posts
  pub told : All (IsFittingOf p) attempts

abbrev pub MovesFitting : ClientPlan → Loads → Move → Type 0
MovesFitting p w m = LeavesFitting p w m.state (listed m.post) (tells m)
