-- Who tells that an attempt is unresolved by itself, and all that may lead to it: a target of the attempt stopped since it began.
use Rattle.std.specs.Prelude.{◌≡◌, Bool, true, false, ◌&&◌, List, slice_get, Contains, Some, None}
use Rattle.base_types.specs.declared.id.AttemptId.{AttemptId}
use Rattle.base_types.specs.declared.report.Line.{Line}
use Rattle.model_laws.specs.Members.{Has}
use Rattle.base_messages.specs.declared.message.Message.{Message, more_of-Message}
use Rattle.base_messages.specs.declared.message.Message.TheVariants as message
use Rattle.base_messages.specs.declared.message.Reply.TheVariants as reply
use Rattle.daos_model.specs.Accesses.{attempt_targets}
use Rattle.daos_model.specs.Attempts.{EachTry, is_lost, up_to_last_of}
use Rattle.daos_model.specs.CausesShown.{IsLostAtStop, StopsAfter}
use Rattle.daos_model.specs.Durables.{same_attempt}
use Rattle.world_contents.specs.world_commit.attempts.Attempts.{IsHeld, leader_of}
use Rattle.world_base.specs.declared.letter.Letter.{Letter}
use Rattle.world_base.specs.declared.target.Life.TheVariants.{Running}
use Rattle.world_base.specs.declared.target.TargetState.{TargetState}
use Rattle.world_base.specs.declared.world.World.{World}
use Rattle.world_base.specs.Events.{Rules}
use Rattle.world_contents.specs.world_letters.epochs.Epochs.{IsPresent}

-- ---- a stop

-- a target of an attempt stopped since its client's last line, so, where it is its client's present attempt, since it began
abbrev pub StoppedSince : Rules → List Line → AttemptId → Type 0
StoppedSince r lines x = StopsAfter (attempt_targets r.script x) (up_to_last_of x.client lines) lines

-- ---- what tells of one

-- an attempt's leader asks another member of it, or its client asks a target
abbrev pub is_asked_of : AttemptId → Message → Bool
is_asked_of x (message.Prepare e first ws inc) = same_attempt e.attempt x
is_asked_of x (message.Status y inc) = same_attempt y x
is_asked_of x (message.Fetch y op group ep first tracker q snapshot) = same_attempt y x
is_asked_of x (message.Commit y ep first tracker ws) = same_attempt y x
is_asked_of x (message.Ask y) = same_attempt y x
is_asked_of x (message.Snap y cont name tracker) = same_attempt y x
is_asked_of x (message.Prune y cont (Some tracker) None) = same_attempt y x
is_asked_of x m = false

-- A message that there is of an attempt only after a stop: its leader asks what a member holds, or is answered; its client asks what became
-- of it; what they asked got no answer; or it is told that the attempt is unresolved by itself.
abbrev pub tells_stop : AttemptId → Message → Bool
tells_stop x (message.Status y inc) = same_attempt y x
tells_stop x (message.StatusIs y inc how) = same_attempt y x
tells_stop x (message.Ask y) = same_attempt y x
tells_stop x (message.Reset' t false place (more_of-Message q rest)) = is_asked_of x q
tells_stop x (message.Ended y own how) = same_attempt y x && is_lost x how
tells_stop x (message.Ack y inc (Some how)) = same_attempt y x && is_lost x how
tells_stop x (message.Fetched y op group own (reply.Outcome how)) = same_attempt y x && is_lost x how
tells_stop x m = false

-- a target that doesn't run has an entry of an attempt that it leads
pub record Rests (r : Rules) (w : World) (x : AttemptId) : Type 0 where
  pub s : TargetState
  pub here : slice_get w.targets (leader_of r x) ≡ Some s
  pub off : s.life ≡ Running → ⊥
  pub held : IsHeld w (leader_of r x) x

-- ---- the facts

pub record Losses (r : Rules) (w : World) : Type 0 where
  -- of a present attempt such a message is in flight, or such a question without an answer, only where a target of it stopped since it began
  pub letters : (l : Letter) (x : AttemptId) → Has l w.messages → tells_stop x l.message ≡ true → IsPresent r w x → StoppedSince r w.lines x
  pub asked : (l : Letter) (x : AttemptId) → Has l w.asked → tells_stop x l.message ≡ true → is_asked_of x l.message ≡ true → IsPresent r w x → StoppedSince r w.lines x
  -- so it is where its leader holds it and doesn't run
  pub resting : (x : AttemptId) → Rests r w x → IsPresent r w x → StoppedSince r w.lines x
  -- and a line tells so only behind such a stop
  pub lines : EachTry (λ before a. is_lost a.id a.outcome ≡ true → IsLostAtStop r.script before a) w.lines

-- ---- what else holds of the world, of which this makes use

-- What is asked about a present attempt is asked of one of its targets.
abbrev pub AsksItsTargets : Rules → World → Type 0
AsksItsTargets r w = (q : Letter) (x : AttemptId) → Has q w.asked → is_asked_of x q.message ≡ true → IsPresent r w x → Contains (attempt_targets r.script x) q.to.number

-- The leader of a present attempt that it holds is one of its targets.
abbrev pub LeadersAreTargets : Rules → World → Type 0
LeadersAreTargets r w = (x : AttemptId) → IsPresent r w x → IsHeld w (leader_of r x) x → Contains (attempt_targets r.script x) (leader_of r x)
