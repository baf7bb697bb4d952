-- The laws of questions between targets where snapshots are made and containers aggregated, as statements.
use Rattle.base_types.specs.declared.id.AttemptId.{AttemptId}
use Rattle.world_causes.specs.world_commit.attempts.History.{Aborted, History}
use Rattle.world_base.specs.declared.world.World.{World}
use Rattle.world_base.specs.Events.{Rules}
use Rattle.world_base.specs.Stops.{Happening, HearsMore, TargetCut, WorldEvent}
use Rattle.world_causes.specs.world_commit.fates.Asked.{AskedRight}
use Rattle.world_causes.specs.world_commit.fates.Facts.{Attempts}
use Rattle.world_making.specs.fates.Laws.{IsWorkOfMaking}
use Rattle.world_making.specs.making.Making.{IsOfMaking}
use Rattle.world_causes.specs.world_commit.questions.Facts.{Questions}
use Rattle.world_causes.specs.world_commit.questions.Laws.{AbortsGrow}

-- a target hears of a snapshot or an aggregation, where what is aborted stays so
abbrev pub MakingKeepsQuestions : Type 0
MakingKeepsQuestions =
    (r : Rules) (h later : History) (w v : World) → Attempts r h w → (g : HearsMore r w v) → IsOfMaking g.hears.l.message → ((x : AttemptId) → Aborted h x → Aborted later x)
    → Attempts r later v → Questions r h w → Questions r later v

-- its turn is cut in that
abbrev pub MakingCutsKeepQuestions : Type 0
MakingCutsKeepQuestions =
    (r : Rules) (h later : History) (w v : World) → AskedRight r h w → Attempts r h w → (g : TargetCut r w v) → IsWorkOfMaking g.work
    → ((x : AttemptId) → Aborted h x → Aborted later x) → Attempts r later v → Questions r h w → Questions r later v

-- So whatever happens keeps them, beside the facts of attempts, which hold before and after it.
abbrev pub AllHappeningsKeepQuestions : Type 0
AllHappeningsKeepQuestions =
    (r : Rules) (h later : History) (w v : World) → AskedRight r h w → Attempts r h w → (e : Happening r w v) → AbortsGrow h later e → Attempts r later v → Questions r h w
    → Questions r later v

-- And so does each event of a run, beside them, as they are once it happened.
abbrev pub AllEventsKeepQuestions : Type 0
AllEventsKeepQuestions =
    (r : Rules) (h later : History) (w v : World) → AskedRight r h w → Attempts r h w → (e : WorldEvent r w v) → AbortsGrow h later e.happens → Attempts r later e.u
    → Questions r h w → Questions r later v
