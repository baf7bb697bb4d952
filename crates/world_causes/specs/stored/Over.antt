-- What is stored once, in a run of many targets that may stop and open again: the facts, and what they stand on.
use Rattle.std.specs.Prelude.{ℕ, ◌≡◌, Contains}
use Rattle.base_types.specs.declared.id.AttemptId.{AttemptId}
use Rattle.world_contents.specs.world_commit.attempts.Attempts.{IsBorn}
use Rattle.world_contents.specs.world_commit.attempts.History.{History}
use Rattle.world_base.specs.declared.letter.Letter.{Letter}
use Rattle.world_base.specs.declared.world.World.{World}
use Rattle.world_base.specs.Events.{Rules}
use Rattle.world_base.specs.Letters.{client}
use Rattle.world_contents.specs.world_commit.fates.Asked.{AskedRight}
use Rattle.world_contents.specs.world_commit.fates.Facts.{Attempts}
use Rattle.world_causes.specs.outcomes.Outcomes.{IsHandedOver}
use Rattle.world_causes.specs.outcomes.Premises.{CommitsAreOfClients, HandsOver, LinesArePast}
use Rattle.world_causes.specs.causes.Causes.{EndsOf, Stored}
use Rattle.world_causes.specs.causes.Storing.{StoredOnce}
use Rattle.world_causes.specs.causes.StoreTurns.{IsCommitOf}
use Rattle.world_causes.specs.causes.Turns.{HasNoLine}

-- Each attempt was stored at most once at each target, or was about to when its target stopped; not where it is asked for still, and not
-- where it was refused for want of space. Its client handed it over, and doesn't so again.
pub record StoringOver (r : Rules) (stored : Stored) (w : World) : Type 0 where
  pub so : StoredOnce stored w
  pub handed : (t : ℕ) (x : AttemptId) → Contains stored (t, x) → IsHandedOver r w.clients x
  pub uncommitted : (t : ℕ) (x : AttemptId) (l : Letter) → Contains stored (t, x) → Contains w.messages l → IsCommitOf l.message x → ⊥

-- nobody is told of an attempt's end, and no line tells of it
pub record IsUntold (w : World) (x : AttemptId) : Type 0 where
  pub letters : (l : Letter) → Contains w.messages l → EndsOf l.message x → ⊥
  pub lines : HasNoLine w.lines x

-- What is known of the world before an event of a target, and of the one after it: the facts of attempts; that clients hand attempts over one
-- at a time, and what they hand over they wait for; that they are past what lines tell of; and that who is told of an end is its client.
pub record IsStoringKnown (r : Rules) (h later : History) (w v : World) : Type 0 where
  pub asked : AskedRight r h w
  pub attempts : Attempts r h w
  pub attempts_then : Attempts r later v
  pub hands : HandsOver r w
  pub handed : (x : AttemptId) → IsBorn r h w x → IsHandedOver r w.clients x
  pub handed_then : (x : AttemptId) → IsBorn r later v x → IsHandedOver r v.clients x
  pub commits_then : CommitsAreOfClients v
  pub past : LinesArePast w
  pub own : (l : Letter) (x : AttemptId) → Contains w.messages l → EndsOf l.message x → l.to ≡ client x.client
