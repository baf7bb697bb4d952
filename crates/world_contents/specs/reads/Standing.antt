-- What versions and reads make use of, that is said of attempts: of their entries, of what leaders remember of them, and of what targets are
-- told. It holds where targets don't stop, and where they may.
use Rattle.std.specs.Prelude.{ℕ, ◌≡◌, Bool, true, false, List, Contains, slice_get, Option, Some, None}
use Rattle.base_types.specs.declared.entry.Entry.{Entry}
use Rattle.base_types.specs.declared.entry.Verdict.{Verdict}
use Rattle.base_types.specs.declared.entry.Verdict.TheVariants as fate
use Rattle.base_types.specs.declared.id.AttemptId.{AttemptId}
use Rattle.base_types.specs.declared.operation.MinorWrite.{MinorWrite}
use Rattle.base_types.specs.declared.outcome.Outcome.{Outcome}
use Rattle.model_laws.specs.Members.{Has}
use Rattle.base_messages.specs.declared.actor.ActorId.{ActorId}
use Rattle.base_messages.specs.declared.message.Message.{Message}
use Rattle.base_messages.specs.declared.message.Message.TheVariants as message
use Rattle.daos_model.specs.declared.durable.Version.{Version}
use Rattle.daos_model.specs.Opening.{Opening}
use Rattle.world_commit.specs.dtx_base.declared.leading.Undecided.{Undecided}
use Rattle.world_commit.specs.dtx_base.Members.{writes_at}
use Rattle.world_commit.specs.attempts.Attempts as letters
use Rattle.world_commit.specs.attempts.Attempts.{Entries, IsOpenAt, IsUnsettled, entry_at, first_entry, is_asked_by, is_known_at, is_prepare_to, row_at, writes_of}
use Rattle.world_commit.specs.attempts.Asked.{AskedRight}
use Rattle.world_commit.specs.attempts.History.{Aborted, History}
use Rattle.world_commit.specs.world_base.declared.letter.Letter.{Letter}
use Rattle.world_commit.specs.world_base.declared.target.TargetState.{TargetState}
use Rattle.world_commit.specs.world_base.declared.world.World.{World}
use Rattle.world_commit.specs.world_base.Acks as ack
use Rattle.world_commit.specs.world_base.Events.{Rules, target_plan}
use Rattle.world_commit.specs.world_base.Letters.{target}
use Rattle.world_commit.specs.world_base.RightTurns.{TellsOfOthers}
use Rattle.world_commit.specs.world_base.Roles.{leader_at}
use Rattle.world_commit.specs.world_base.Statuses.{status_refusal}
use Rattle.world_contents.specs.reads.ChangeLaws.{WasDecided}
use Rattle.world_contents.specs.reads.Given.{Given}
use Rattle.world_contents.specs.reads.MarkLaws.{IsFateRight}
use Rattle.world_contents.specs.reads.Reads.{Reads}
use Rattle.world_contents.specs.reads.Versions.{Versions}

-- ---- the statements

-- a Prepare brings the writes of its attempt that are a target's, at an epoch that was issued; the attempt isn't decided, and has no entry there
pub record IsPrepareSo (r : Rules) (h : History) (w : World) (t : ℕ) (e : Entry) (ws : List MinorWrite) : Type 0 where
  pub entry : e ≡ first_entry r e.attempt e.epoch
  pub writes : ws ≡ writes_at r.script.targets t (writes_of r e.attempt)
  pub issued : Contains w.issued (e.attempt, e.epoch)
  pub absent : entry_at w t e.attempt ≡ None
  pub undecided : WasDecided h e.attempt → ⊥

-- no refusal counts of a decided attempt
abbrev pub IsRefusalSo : Rules → History → ℕ → TargetState → ActorId → AttemptId → ℕ → Option Outcome → Type 0
IsRefusalSo r h t s from x inc refusal = ack.is_refusing from.number x inc refusal (leader_at (target_plan r t) s.memory s.durable) ≡ true → WasDecided h x → ⊥

abbrev pub IsVerdictSo : History → Verdict → AttemptId → Type 0
IsVerdictSo h fate.Committed x = WasDecided h x
IsVerdictSo h fate.Aborted x = WasDecided h x → ⊥
IsVerdictSo h fate.Undecided x = Unit {0}

-- what a target is told by another of attempts is so
abbrev pub IsToldSo : Rules → History → World → ℕ → TargetState → ActorId → Message → Type 0
IsToldSo r h w t s from (message.Prepare e first ws inc) = IsPrepareSo r h w t e ws
IsToldSo r h w t s from (message.Ack x inc refusal) = IsRefusalSo r h t s from x inc refusal
IsToldSo r h w t s from (message.StatusIs x inc how) = IsRefusalSo r h t s from x inc (status_refusal x how)
IsToldSo r h w t s from (message.Mark inc marks) = (x : AttemptId) (committed : Bool) → Has (x, committed) marks → IsFateRight h x committed
IsToldSo r h w t s from (message.Verdict x ask inc v) = IsVerdictSo h v x
IsToldSo r h w t s from m = Unit {0}

-- Entries of an attempt are its own, and those of a decided one stand where it writes; what its leader remembers of it is of an entry that
-- isn't committed; what is known as decided is; and what targets are told of it is so. They are told what became of others' attempts alone.
pub record AttemptsStand (r : Rules) (h : History) (w : World) : Type 0 where
  pub entries : (x : AttemptId) → Entries r h w x
  pub rows : (x : AttemptId) (t : ℕ) (u : Undecided) → row_at w t x ≡ Some u → IsOpenAt r w x t
  pub known : (x : AttemptId) (t : ℕ) → is_known_at w t x ≡ true → IsUnsettled r h w x t
  pub told : (l : Letter) (t : ℕ) (s : TargetState) → Has l w.messages → l.to ≡ target t → slice_get w.targets t ≡ Some s → IsToldSo r h w t s l.from l.message
  pub others : (l : Letter) (t : ℕ) (s : TargetState) → Has l w.messages → l.to ≡ target t → slice_get w.targets t ≡ Some s → TellsOfOthers t s.memory.leader s.durable l.message

-- all that versions and reads make use of before a turn, and what holds of them
pub record Knows (r : Rules) (o : Opening) (held : ℕ → List Version) (h : History) (w : World) : Type 0 where
  pub given : Given r o held w
  pub right : AskedRight r h w
  pub attempts : AttemptsStand r h w
  pub versions : Versions r o held h w
  pub reads : Reads r o h w

-- ---- where targets don't stop

-- a letter that asks a member to prepare
pub asked-prepares : (x : AttemptId) (m : ℕ) (l : Letter) → is_asked_by x m l.to l.message ≡ true → is_prepare_to x m l ≡ true
unfolding is_prepare_to
asked-prepares x m l is = is

-- what is said of an attempt's fate is so, where what is aborted isn't decided
module _ (h : History) (undecided : (x : AttemptId) → Aborted h x → WasDecided h x → ⊥) where
  pub mark-so : (x : AttemptId) (c : Bool) → letters.IsMarkTrue h x c → IsFateRight h x c
  mark-so x true d = d
  mark-so x false a = undecided x a

  pub verdict-so : (x : AttemptId) (v : Verdict) → letters.IsVerdictTrue h x v → IsVerdictSo h v x
  verdict-so x fate.Committed d = d
  verdict-so x fate.Aborted a = undecided x a
  verdict-so x fate.Undecided u = tt
