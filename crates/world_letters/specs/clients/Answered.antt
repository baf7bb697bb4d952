-- What a client's attempts were answered, and how that goes with their ends.
use Rattle.std.specs.Prelude.{ℕ, ◌≡◌, ◌⊎◌, ◌+◌, Bool, true, false, List, map, take, slice_get, All, Option, Some, None}
use Rattle.base_types.specs.declared.operation.Op.{Op}
use Rattle.base_types.specs.declared.operation.Read.{Read}
use Rattle.base_types.specs.declared.outcome.Outcome.{Outcome}
use Rattle.base_types.specs.declared.outcome.Outcome.TheVariants as outcome
use Rattle.base_types.specs.declared.report.Attempt.{Attempt}
use Rattle.base_messages.specs.declared.message.Message.{Message}
use Rattle.base_messages.specs.declared.message.Message.TheVariants as message
use Rattle.base_messages.specs.declared.message.Reply.{Reply}
use Rattle.base_messages.specs.declared.message.Reply.TheVariants as reply
use Rattle.daos_model.specs.Conditions.{AllHold, FailsAt, Holds, condition_numbers}
use Rattle.daos_model.specs.Transactions.{numbered, ops_or_none, read_numbers}
use Rattle.world_base.specs.declared.client.ClientPlan.{ClientPlan}
use Rattle.world_base.specs.declared.client.ClientState.{ClientState}
use Rattle.world_base.specs.declared.client.Present.{Present}
use Rattle.world_base.specs.declared.client.Stage.{Stage}
use Rattle.world_base.specs.declared.client.Stage.TheVariants as stage
use Rattle.world_base.specs.ClientTurns.{about, attempt_id, command_at, is_about, question}

-- the operations of the command of this number
abbrev pub ops_numbered : ClientPlan → ℕ → List Op
ops_numbered p n = ops_or_none (slice_get (numbered p.commands) n)

-- the operations of the command that a client is at
abbrev pub ops_here : ClientPlan → ClientState → List Op
ops_here p c = ops_or_none (command_at p c)

-- the conditions that are answered where an attempt is at a stage of an operation
abbrev pub conditions_due : List Op → ℕ → Stage → List ℕ
conditions_due ops n stage.Skip = condition_numbers 0 (take n ops)
conditions_due ops n stage.Cond = condition_numbers 0 (take n ops)
conditions_due ops n stage.Act = condition_numbers 0 (take (n + 1) ops)

-- a present attempt was answered its conditions and reads so far, in order, and all the conditions hold
pub record IsAnswered (ops : List Op) (a : Present) : Type 0 where
  pub asked : map (λ told. told.0) a.conds ≡ conditions_due ops a.op a.stage
  pub answered : map (λ got. got.0) a.gots ≡ read_numbers 0 (take a.op ops)
  pub hold : All (Holds ops) a.conds

abbrev pub IsAnsweredHere : List Op → Option Present → Type 0
IsAnsweredHere ops None = Unit {0}
IsAnsweredHere ops (Some a) = IsAnswered ops a

-- an attempt was answered all its conditions and reads, in order, and all conditions hold
pub record IsAnsweredWhole (ops : List Op) (a : Attempt) : Type 0 where
  pub asked : map (λ told. told.0) a.conds ≡ condition_numbers 0 ops
  pub answered : map (λ got. got.0) a.gots ≡ read_numbers 0 ops
  pub hold : AllHold ops a

-- what an attempt was answered goes with how it ended
abbrev pub EndsWell : List Op → Attempt → Outcome → Type 0
EndsWell ops a outcome.Committed = IsAnsweredWhole ops a
EndsWell ops a (outcome.CondFailed op) = FailsAt ops op a
EndsWell ops a (outcome.Restart cause) = AllHold ops a
EndsWell ops a (outcome.NoSpace target need free) = AllHold ops a
EndsWell ops a outcome.EpochsSpent = AllHold ops a
EndsWell ops a outcome.NoSnapshot = AllHold ops a
EndsWell ops a (outcome.Unknown target) = AllHold ops a

abbrev pub EndsAsAnswered : ClientPlan → Attempt → Type 0
EndsAsAnswered p a = EndsWell (ops_numbered p a.id.command) a a.outcome

-- a client's attempts ended as they were answered, and so far the present one was answered well
pub record AreAnswered (p : ClientPlan) (c : ClientState) (attempts : List Attempt) : Type 0 where
  pub ended : All (EndsAsAnswered p) attempts
  pub here : IsAnsweredHere (ops_here p c) c.present

-- ---- what a client is told

-- an outcome that a target gives an attempt which isn't committed
abbrev pub is_refusal : Outcome → Bool
is_refusal outcome.Committed = false
is_refusal (outcome.CondFailed op) = false
is_refusal (outcome.Restart cause) = true
is_refusal (outcome.NoSpace target need free) = true
is_refusal outcome.EpochsSpent = true
is_refusal outcome.NoSnapshot = false
is_refusal (outcome.Unknown target) = true

-- the attempt asks something at its stage
pub record IsAsking (ops : List Op) (a : Present) : Type 0 where
  pub op : Op
  pub read : Read
  pub at : slice_get ops a.op ≡ Some op
  pub asks : question a.stage op ≡ Some read

abbrev pub IsReplyFit : List Op → Present → Reply → Type 0
IsReplyFit ops a (reply.Answer b) = IsAsking ops a
IsReplyFit ops a (reply.Outcome how) = is_refusal how ≡ true

-- an answer comes to what was asked, and a read ends in a refusal alone; an attempt ends as committed behind its last
-- operation alone
abbrev pub IsFit : ClientPlan → ClientState → Present → Message → Type 0
IsFit p c a (message.Fetched x op group e b) = IsReplyFit (ops_here p c) a b
IsFit p c a (message.Ended x e how) = (is_refusal how ≡ true) ⊎ ((how ≡ outcome.Committed) × (slice_get (ops_here p c) a.op ≡ None))
IsFit p c a m = Unit {0}

-- a message that is about the attempt which a client waits with is fit to it
abbrev pub IsFitHere : ClientPlan → ClientState → Message → Option Present → Type 0
IsFitHere p c m None = Unit {0}
IsFitHere p c m (Some a) = a.waits ≡ true → is_about (attempt_id p c a) (about m) ≡ true → IsFit p c a m
