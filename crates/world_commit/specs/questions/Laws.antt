-- The laws of questions between targets, as statements.
use Rattle.std.specs.Prelude.{ℕ, ◌≡◌, [], slice_get, Some}
use Rattle.base_types.specs.declared.id.AttemptId.{AttemptId}
use Rattle.world_commit.specs.attempts.History.{Aborted, GrowsBy, History}
use Rattle.world_commit.specs.fates.Asked.{AskedRight}
use Rattle.world_commit.specs.fates.Facts.{Attempts}
use Rattle.world_commit.specs.questions.Facts.{Questions}
use Rattle.world_commit.specs.questions.Flying.{IsWithoutCollections}
use Rattle.world_commit.specs.questions.Losing.{WaitsForNone}
use Rattle.world_commit.specs.stops.CutEvents.{IsWithoutSnapshots, cut_told}
use Rattle.world_base.specs.declared.target.TargetState.{TargetState}
use Rattle.world_base.specs.declared.world.World.{World}
use Rattle.world_base.specs.Events.{Rules}
use Rattle.world_base.specs.Stops.{Happening, IsCut, swept}

-- nothing is in flight, and no target waits for anything
pub record IsNothingAsked (w : World) : Type 0 where
  pub messages : w.messages ≡ []
  pub waits : (t : ℕ) (s : TargetState) → slice_get w.targets t ≡ Some s → WaitsForNone s.memory
  pub undecided : (t : ℕ) (s : TargetState) → slice_get w.targets t ≡ Some s → s.memory.leader.undecided ≡ []

abbrev pub QuestionsBegin : Type 0
QuestionsBegin = (r : Rules) (h : History) (w : World) → IsNothingAsked w → Questions r h w

-- a turn that is cut is one in which nothing is heard of snapshots and aggregations
abbrev pub AreCutsPlain : {r : Rules} {w v : World} → Happening r w v → Type 0
AreCutsPlain (IsCut g) = IsWithoutSnapshots g.work
AreCutsPlain e = Unit {0}

-- What is aborted stays so; and where a turn is cut, that is aborted besides which would be told to be if clients waited and the target went on.
abbrev pub AbortsGrow : {r : Rules} {w v : World} → History → History → Happening r w v → Type 0
AbortsGrow h later (IsCut g) = GrowsBy h (cut_told g.work g.s g.cut) later
AbortsGrow h later e = (x : AttemptId) → Aborted h x → Aborted later x

-- Whatever happens keeps them, beside the facts of attempts, which hold before and after it; but for what is heard of snapshots and
-- aggregations, and the cuts of such turns.
abbrev pub HappeningsKeepQuestions : Type 0
HappeningsKeepQuestions =
    (r : Rules) (h later : History) (w v : World) → AskedRight r h w → Attempts r h w → (e : Happening r w v) → IsWithoutCollections e → AreCutsPlain e → AbortsGrow h later e → Attempts r later v → Questions r h w → Questions r later v

-- and so does the loss of what goes to targets that are given up
abbrev pub SweepingKeepsQuestions : Type 0
SweepingKeepsQuestions = (r : Rules) (h : History) (w : World) → Attempts r h w → Attempts r h (swept w) → Questions r h w → Questions r h (swept w)
