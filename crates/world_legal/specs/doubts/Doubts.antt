-- A leader that stopped may no longer know what became of an attempt. Where that shows, it stopped since the attempt began.
use Rattle.std.specs.Prelude.{ℕ, ◌≡◌, false, [], ◌∷◌, slice_get, Contains, Option, Some}
use Rattle.base_types.specs.declared.entry.Entry.{Entry}
use Rattle.base_types.specs.declared.epoch.Epoch.{Epoch}
use Rattle.base_types.specs.declared.id.AttemptId.{AttemptId}
use Rattle.base_types.specs.declared.outcome.Outcome.TheVariants as outcome
use Rattle.base_types.specs.declared.report.Attempt.{Attempt}
use Rattle.base_messages.specs.declared.message.Message.TheVariants as message
use Rattle.daos_model.specs.Attempts.{EachTry, tries, up_to_last_of}
use Rattle.daos_model.specs.CausesShown.{StopsAfter}
use Rattle.model_laws.specs.Members.{Has}
use Rattle.world_standing.specs.world_commit.attempts.Attempts.{IsBorn, entry_at, is_known_at, leader_of}
use Rattle.world_standing.specs.world_commit.attempts.History.{History}
use Rattle.world_base.specs.declared.letter.Letter.{Letter}
use Rattle.world_base.specs.declared.target.Life.TheVariants.{Running}
use Rattle.world_base.specs.declared.target.TargetState.{TargetState}
use Rattle.world_base.specs.declared.world.World.{World}
use Rattle.world_base.specs.Events.{Rules}
use Rattle.world_standing.specs.world_letters.epochs.Epochs.{IsPresent}
use Rattle.world_standing.specs.world_causes.losses.ClientHears.{TellsLoss}

-- ---- a stop

-- The leader of an attempt stopped since the attempt began: while its client is at it, since the client's last line; and where a line tells of
-- it, since the client's line before that one.
pub record ItsLeaderStopped (r : Rules) (w : World) (x : AttemptId) : Type 0 where
  pub present : IsPresent r w x → StopsAfter (leader_of r x ∷ []) (up_to_last_of x.client w.lines) w.lines
  pub told : EachTry (λ before b. b.id ≡ x → StopsAfter (leader_of r x ∷ []) (up_to_last_of x.client before) w.lines) w.lines

-- ---- what shows it

-- an attempt is in doubt: its leader has an entry of it that isn't committed, and doesn't know it as decided
pub record IsInDoubt (r : Rules) (w : World) (x : AttemptId) : Type 0 where
  pub entry : Entry
  pub found : entry_at w (leader_of r x) x ≡ Some entry
  pub prepared : entry.committed ≡ false
  pub unknown : is_known_at w (leader_of r x) x ≡ false

-- it is told as committed: its client is told so, or a line tells it
pub data IsToldCommitted (w : World) (x : AttemptId) : Type 0 where
  InFlight : (l : Letter) (own : Option Epoch) → Has l w.messages → l.message ≡ message.Ended x own outcome.Committed → IsToldCommitted w x
  InLines : (b : Attempt) → Contains (tries w.lines) b → b.id ≡ x → b.outcome ≡ outcome.Committed → IsToldCommitted w x

-- a target doesn't run
pub record RestsAt (w : World) (t : ℕ) : Type 0 where
  pub s : TargetState
  pub here : slice_get w.targets t ≡ Some s
  pub off : s.life ≡ Running → ⊥

-- ---- the facts

-- So it is of an attempt that is told as committed and is in doubt; of one that its leader stored once, and that doesn't run; and of one for
-- which a question what became of it is lost.
pub record Doubts (r : Rules) (h : History) (w : World) : Type 0 where
  pub doubtful : (x : AttemptId) → IsInDoubt r w x → IsToldCommitted w x → ItsLeaderStopped r w x
  pub resting : (x : AttemptId) → IsBorn r h w x → RestsAt w (leader_of r x) → ItsLeaderStopped r w x
  pub lost : (l : Letter) (x : AttemptId) (ask : Option AttemptId) → Has l w.messages → TellsLoss l.message (message.Query x ask) → ItsLeaderStopped r w x
