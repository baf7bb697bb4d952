-- The facts of attempts hold where a run begins, and every right event keeps them, of what is decided and aborted by its end.
use Rattle.std.specs.Prelude.{ℕ, ◌≡◌, [], slice_get, Some}
use Rattle.base_types.specs.declared.epoch.Epoch.{Epoch}
use Rattle.base_types.specs.declared.id.AttemptId.{AttemptId}
use Rattle.world_commit.specs.attempts.History.{Aborted, Decided, GrowsBy, History}
use Rattle.world_commit.specs.fates.Asked.{AskedRight}
use Rattle.world_commit.specs.fates.Facts.{Attempts, IsQuiet}
use Rattle.world_commit.specs.fates.Told.{told_posts}
use Rattle.world_base.specs.declared.target.TargetState.{TargetState}
use Rattle.world_base.specs.declared.world.World.{World}
use Rattle.world_base.specs.Events.{RightEvent, Rules}

-- a target that keeps no entry and leads no attempt
pub record IsUnused (s : TargetState) : Type 0 where
  pub entries : s.durable.entries ≡ []
  pub undecided : s.memory.leader.undecided ≡ []
  pub decided : s.memory.leader.decided ≡ []

-- nothing is in flight, nothing decided or aborted, and no target keeps an entry
pub record HasNoAttempts (h : History) (w : World) : Type 0 where
  pub decided : h.decided ≡ []
  pub aborted : h.aborted ≡ []
  pub messages : w.messages ≡ []
  pub targets : (t : ℕ) (s : TargetState) → slice_get w.targets t ≡ Some s → IsUnused s

-- nothing is in flight or without an answer, nothing decided or aborted, no target keeps an entry, and those that don't run know nothing
pub record HasNoneYet (h : History) (w : World) : Type 0 where
  pub none : HasNoAttempts h w
  pub asked : w.asked ≡ []
  pub quiet : (t : ℕ) (s : TargetState) → slice_get w.targets t ≡ Some s → IsQuiet s

abbrev pub AttemptsBegin : Type 0
AttemptsBegin = (r : Rules) (h : History) (w : World) → HasNoneYet h w → Attempts r h w

-- every right event keeps them, whichever reads are served
abbrev pub AttemptsAreKept : Type 0
AttemptsAreKept = (r : Rules) (h later : History) (w v : World) → AskedRight r h w → Attempts r h w → (event : RightEvent r w v) → GrowsBy h (told_posts event) later → Attempts r later v

-- no attempt is both decided and aborted
abbrev pub NoneIsBoth : Type 0
NoneIsBoth = (r : Rules) (h : History) (w : World) (x : AttemptId) (e : Epoch) → Attempts r h w → Decided h x e → Aborted h x → ⊥

-- and no attempt is decided at two epochs
abbrev pub DecidedOnce : Type 0
DecidedOnce = (r : Rules) (h : History) (w : World) (x : AttemptId) (e f : Epoch) → Attempts r h w → Decided h x e → Decided h x f → e ≡ f
