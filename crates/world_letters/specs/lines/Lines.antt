-- What the lines of a run tell of each client's commands.
use Rattle.std.specs.Prelude.{ℕ, ◌≡◌, ◌⊎◌, Bool, true, false, List, [], ◌∷◌, Contains, slice_get, Option, Some, None}
use Rattle.base_types.specs.declared.epoch.Epoch.{Epoch}
use Rattle.base_types.specs.declared.id.AttemptId.{AttemptId}
use Rattle.base_types.specs.declared.outcome.Outcome.{Outcome}
use Rattle.base_types.specs.declared.outcome.Outcome.TheVariants.{Committed, NoSpace, Restart}
use Rattle.base_types.specs.declared.report.Attempt.{Attempt}
use Rattle.base_types.specs.declared.report.Line.{Line}
use Rattle.base_messages.specs.declared.message.Message.{Message}
use Rattle.base_messages.specs.declared.message.Message.TheVariants.{Ack, Ended, Fetched, Held, Mark, Marked, Prepare, Query, Verdict}
use Rattle.base_messages.specs.declared.message.Reply.{Reply}
use Rattle.base_messages.specs.declared.message.Reply.TheVariants as reply
use Rattle.daos_model.specs.Attempts.{tries_of}
use Rattle.world_base.specs.declared.client.ClientPlan.{ClientPlan}
use Rattle.world_base.specs.declared.client.ClientState.{ClientState}
use Rattle.world_base.specs.declared.letter.Letter.{Letter}
use Rattle.world_base.specs.declared.world.World.{World}
use Rattle.world_letters.specs.clients.AnswerLaws.{Tells}
use Rattle.world_letters.specs.clients.Answered.{is_refusal}
use Rattle.world_base.specs.Events.{Rules, client_plan, or_issued}

-- an attempt as it stands in the lines: where its client knew no epoch of it, with the one that was issued
abbrev pub filled : List (AttemptId × Epoch) → Attempt → Attempt
filled issued a = record a { epoch = or_issued issued a.id a.epoch }

-- two attempts are the same but for their epochs
pub record IsTheSame (a b : Attempt) : Type 0 where
  pub id : b.id ≡ a.id
  pub conds : b.conds ≡ a.conds
  pub gots : b.gots ≡ a.gots
  pub outcome : b.outcome ≡ a.outcome

-- one by one
abbrev pub AreTheSame : List Attempt → List Attempt → Type 0
AreTheSame [] [] = Unit {0}
AreTheSame [] (b ∷ bs) = ⊥
AreTheSame (a ∷ as') [] = ⊥
AreTheSame (a ∷ as') (b ∷ bs) = IsTheSame a b × AreTheSame as' bs

-- the lines tell of a client what it has told, but for epochs
pub record HasLines (p : ClientPlan) (n : ℕ) (c : ClientState) (lines : List Line) : Type 0 where
  pub attempts : List Attempt
  pub tells : Tells p c attempts
  pub same : AreTheSame attempts (tries_of n lines)

-- of every client
pub record Lines (r : Rules) (w : World) : Type 0 where
  pub told : (n : ℕ) (c : ClientState) → slice_get w.clients n ≡ Some c → HasLines (client_plan r n) n c w.lines
  pub nobody : (n : ℕ) → slice_get w.clients n ≡ None → tries_of n w.lines ≡ []

-- ---- what goes about

abbrev pub IsRefusalOrNone : Reply → Type 0
IsRefusalOrNone (reply.Answer b) = Unit {0}
IsRefusalOrNone (reply.Outcome how) = is_refusal how ≡ true

-- what a member refuses an attempt with, or a target a freeze, by which it ends: it is told to restart, or there is no space
abbrev pub is_member_refusal : Outcome → Bool
is_member_refusal (Restart cause) = true
is_member_refusal (NoSpace target need free) = true
is_member_refusal how = false

abbrev pub MayEnd : Option Outcome → Type 0
MayEnd None = Unit {0}
MayEnd (Some how) = is_member_refusal how ≡ true

-- an attempt ended as committed, at an epoch
pub record IsCommitted (ep : Option Epoch) (how : Outcome) : Type 0 where
  pub committed : how ≡ Committed
  pub epoch : Epoch
  pub at : ep ≡ Some epoch

-- a read ends in a refusal alone, and an attempt in one, or as committed; a member refuses an attempt with such as may end it, and so does a
-- target a freeze
abbrev pub TellsEnd : Message → Type 0
TellsEnd (Fetched x op group e b) = IsRefusalOrNone b
TellsEnd (Ended x e how) = (is_refusal how ≡ true) ⊎ IsCommitted e how
TellsEnd (Ack x inc refusal) = MayEnd refusal
TellsEnd (Held x refusal) = MayEnd refusal
TellsEnd m = Unit {0}

-- What a target tells in a turn as without stops: a client, what its read or its attempt came to; and another target, what they ask and
-- answer for transactions.
abbrev pub TellsPlainly : Message → Type 0
TellsPlainly (Fetched x op group e b) = IsRefusalOrNone b
TellsPlainly (Ended x e how) = (is_refusal how ≡ true) ⊎ IsCommitted e how
TellsPlainly (Ack x inc refusal) = MayEnd refusal
TellsPlainly (Prepare e first ws inc) = Unit {0}
TellsPlainly (Mark inc marks) = Unit {0}
TellsPlainly (Marked inc ids) = Unit {0}
TellsPlainly (Query x ask) = Unit {0}
TellsPlainly (Verdict x ask inc v) = Unit {0}
TellsPlainly m = ⊥

-- of every message in flight
abbrev pub Endings : World → Type 0
Endings w = (l : Letter) → Contains w.messages l → TellsEnd l.message
