-- What is said of a run, whatever its script does and whatever its targets' versions stood for when it began: who is waited for is asked; and where it
-- has ended it is over. What became of attempts is known where it stands for the opening. The statements.
use Rattle.std.specs.Prelude.{ℕ, List}
use Rattle.daos_model.specs.declared.durable.Version.{Version}
use Rattle.daos_model.specs.Opening.{Opening}
use Rattle.world_commit.specs.attempts.History.{History}
use Rattle.world_base.specs.declared.world.World.{World}
use Rattle.world_base.specs.Ended.{HasEnded}
use Rattle.world_base.specs.Events.{Rules}
use Rattle.world_base.specs.Stops.{WorldRun}
use Rattle.world_answers.specs.world_causes.causes.Causes.{Stored}
use Rattle.world_upheld.specs.below.Legal.{AreAll, Concluded, IsStill, NoneGoesToGivenUp, Resolves, WaitersAreAsked, stored_over}
use Rattle.world_letters.specs.lines.LastLines.{AreDone}
use Rattle.world_upheld.specs.explained.Explanations.{Explained, HoldNoMoreSnapshots}
use Rattle.world_upheld.specs.upheld.Begins.{AreRulesInForm, RunBeginsWell, RunBeginsWith, held_at, AreBefore}
use Rattle.world_closing.specs.asked.Collections.{CollectionsAreAsked}
use Rattle.world_closing.specs.asked.Over.{IsAllOver}

-- ---- at each moment

-- there is a target for each number, and a client for each list of the script
abbrev pub AllRunsHaveAll : Type 0
AllRunsHaveAll = (r : Rules) (o : Opening) (w v : World) → RunBeginsWell r o w → WorldRun r w v → AreAll r v

-- nothing goes to a target that was given up
abbrev pub AllRunsSendNone : Type 0
AllRunsSendNone = (r : Rules) (o : Opening) (w v : World) → RunBeginsWell r o w → WorldRun r w v → NoneGoesToGivenUp v

-- of an attempt for whose end a client waits each other member that isn't counted is asked, or is about to answer
abbrev pub AllRunsAskForWaiters : Type 0
AllRunsAskForWaiters = (r : Rules) (o : Opening) (w v : World) → AreRulesInForm r → RunBeginsWell r o w → WorldRun r w v → WaitersAreAsked r v

-- and so is each other target of what is collected
abbrev pub AllRunsAskForCollections : Type 0
AllRunsAskForCollections = (r : Rules) (o : Opening) (w v : World) → AreRulesInForm r → RunBeginsWell r o w → WorldRun r w v → CollectionsAreAsked r v

-- ---- in the end

-- where nobody has a message to hear or a command to go on with, a run is over, and nothing is collected
abbrev pub AllStillRunsAreOver : Type 0
AllStillRunsAreOver = (r : Rules) (o : Opening) (w v : World) → AreRulesInForm r → RunBeginsWell r o w → WorldRun r w v → IsStill r v → IsAllOver r v

-- so it is where it has ended
abbrev pub AllEndedRunsAreOver : Type 0
AllEndedRunsAreOver = (r : Rules) (o : Opening) (w v : World) → AreRulesInForm r → RunBeginsWell r o w → WorldRun r w v → HasEnded r v → IsAllOver r v

-- ---- what became of attempts

-- what is explained goes on, at any moment, in a history in which just the resolved attempts are decided
abbrev pub ExplainedResolve : Type 0
ExplainedResolve =
    (r : Rules) (o : Opening) (held : ℕ → List Version) (h : History) (stored : Stored) (v : World) → AreRulesInForm r → AreBefore o held → Explained r o held h stored v → Resolves r o held h v

-- and where all clients are done it is known what became of attempts
abbrev pub ExplainedConclude : Type 0
ExplainedConclude =
    (r : Rules) (o : Opening) (held : ℕ → List Version) (h : History) (stored : Stored) (v : World) → AreRulesInForm r → AreBefore o held → Explained r o held h stored v → AreDone r v
    → Concluded r o held h v

-- so it is where a run that stands for the opening has ended, of the history that is explained
abbrev pub AllEndedRunsConclude : Type 0
AllEndedRunsConclude =
    (r : Rules) (o : Opening) (w v : World) → AreRulesInForm r → RunBeginsWith r o w → HoldNoMoreSnapshots o w → (run : WorldRun r w v) → HasEnded r v
    → (h : History) × Explained r o (held_at w) h (stored_over r run) v × Concluded r o (held_at w) h v
