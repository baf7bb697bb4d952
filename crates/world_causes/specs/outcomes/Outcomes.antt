-- What is told of how attempts ended, in a run in which targets may stop.
use Rattle.std.specs.Prelude.{◌≡◌, ◌≢◌, ◌⊎◌, Bool, true, false, List, [], slice_get, Contains, Option, Some, None, ℕ}
use Rattle.base_types.specs.declared.epoch.Epoch.{Epoch}
use Rattle.base_types.specs.declared.id.AttemptId.{AttemptId}
use Rattle.base_types.specs.declared.operation.Op.{Op}
use Rattle.base_types.specs.declared.outcome.Outcome.{Outcome}
use Rattle.base_types.specs.declared.outcome.Outcome.TheVariants as outcome
use Rattle.base_types.specs.declared.report.Attempt.{Attempt}
use Rattle.model_laws.specs.Members.{Has}
use Rattle.base_messages.specs.declared.message.Message.{Message}
use Rattle.base_messages.specs.declared.message.Message.TheVariants as message
use Rattle.daos_model.specs.Accesses.{minor_writes}
use Rattle.daos_model.specs.Attempts.{tries}
use Rattle.daos_model.specs.Durables.{same_attempt}
use Rattle.world_contents.specs.world_commit.attempts.Attempts.{IsBorn, entry_at, leader_of}
use Rattle.world_contents.specs.world_commit.attempts.History.{Decided, History}
use Rattle.world_base.specs.declared.client.ClientPlan.{ClientPlan}
use Rattle.world_base.specs.declared.client.ClientState.{ClientState}
use Rattle.world_base.specs.declared.client.Present.{Present}
use Rattle.world_base.specs.declared.letter.Letter.{Letter}
use Rattle.world_base.specs.declared.world.World.{World}
use Rattle.world_base.specs.ClientTurns.{attempt_id}
use Rattle.world_base.specs.Events.{Rules, client_plan}
use Rattle.world_contents.specs.world_letters.clients.Answered.{ops_here}
use Rattle.world_contents.specs.world_letters.epochs.Epochs.{IsPast}
use Rattle.daos_model.specs.Transactions.{attempt_ops}

abbrev pub HasWrites : Rules → AttemptId → Type 0
HasWrites r x = minor_writes 0 (attempt_ops r.script x) ≢ []

-- the epoch that a client knows of its attempt is that of its decision
abbrev pub Agrees : Rules → History → World → Type 0
Agrees r h w = (n : ℕ) (c : ClientState) (a : Present) (f e : Epoch) → slice_get w.clients n ≡ Some c → c.present ≡ Some a → a.epoch ≡ Some f → Decided h (attempt_id (client_plan r n) c a) e → f ≡ e

-- ---- outcomes

-- an attempt ended, and isn't committed; where it is unknown what became of it, it may be
abbrev pub is_failed : Outcome → Bool
is_failed outcome.Committed = false
is_failed (outcome.CondFailed op) = true
is_failed (outcome.Restart cause) = true
is_failed (outcome.NoSpace target need free) = true
is_failed outcome.EpochsSpent = true
is_failed outcome.NoSnapshot = true
is_failed (outcome.Unknown target) = false

-- What is told of an attempt's end is so: a committed one is decided, at the epoch that is told; of one that failed its leader keeps no
-- entry. Nothing is said of one of which it is unknown what became of it.
pub record IsEndTrue (r : Rules) (h : History) (w : World) (x : AttemptId) (own : Option Epoch) (how : Outcome) : Type 0 where
  pub committed : how ≡ outcome.Committed → (e : Epoch) × (own ≡ Some e) × Decided h x e
  pub failed : is_failed how ≡ true → entry_at w (leader_of r x) x ≡ None

-- ---- what clients hand over

-- a client hands an attempt's writes over to its leader
abbrev pub commits : AttemptId → Message → Bool
commits x (message.Commit y ep first tracker ws) = same_attempt y x
commits x m = false

-- behind the last of some operations, among which there are writes
pub record IsBehind (ops : List Op) (a : Present) : Type 0 where
  pub last : slice_get ops a.op ≡ None
  pub writes : minor_writes 0 ops ≢ []

-- a client waits for an attempt's end, which it handed over
pub record WaitsForEnd (p : ClientPlan) (c : ClientState) (x : AttemptId) : Type 0 where
  pub a : Present
  pub present : c.present ≡ Some a
  pub own : attempt_id p c a ≡ x
  pub waits : a.waits ≡ true
  pub behind : IsBehind (ops_here p c) a

-- the client of an attempt waits for its end, or is past it
pub record IsHandedOver (r : Rules) (clients : List ClientState) (x : AttemptId) : Type 0 where
  pub c : ClientState
  pub here : slice_get clients x.client ≡ Some c
  pub how : IsPast c x ⊎ WaitsForEnd (client_plan r x.client) c x

-- ---- the facts

pub record Outcomes (r : Rules) (h : History) (w : World) : Type 0 where
  -- what clients are told of attempts with writes is so
  pub told : (l : Letter) (x : AttemptId) (own : Option Epoch) (how : Outcome) → Has l w.messages → l.message ≡ message.Ended x own how → HasWrites r x → IsEndTrue r h w x own how
  -- and so are lines
  pub lines : (a : Attempt) → Contains (tries w.lines) a → HasWrites r a.id → IsEndTrue r h w a.id a.epoch a.outcome
  -- while an attempt's Commit is in flight, nothing became of it
  pub new : (l : Letter) (x : AttemptId) → Has l w.messages → commits x l.message ≡ true → IsBorn r h w x → ⊥
  -- whatever its leader stored, or is aborted, its client handed over
  pub handed : (x : AttemptId) → IsBorn r h w x → IsHandedOver r w.clients x
