-- The laws of two-phase commit where snapshots are made and containers aggregated, as statements.
use Rattle.world_causes.specs.world_commit.attempts.History.{GrowsBy, History}
use Rattle.world_base.specs.declared.world.World.{World}
use Rattle.world_base.specs.Events.{Rules}
use Rattle.world_base.specs.Stops.{AtWork, Hearing, HearsMore, IdleWork, TargetCut, WorldEvent}
use Rattle.world_causes.specs.world_commit.fates.Asked.{AskedRight}
use Rattle.world_causes.specs.world_commit.fates.Facts.{Attempts}
use Rattle.world_making.specs.makers.Makers.{MakersTell}
use Rattle.world_making.specs.making.Making.{IsOfMaking}
use Rattle.world_letters.specs.snapshots.Makings.{Makings}
use Rattle.world_causes.specs.world_commit.statuses.Events.{told_by}
use Rattle.world_causes.specs.world_commit.statuses.Senders.{SendersAreRight}
use Rattle.world_letters.specs.waits.Premises.{RequestsAreOfClients}

-- what else is asked here: snapshots and aggregations come of attempts that make them, and what clients ask comes of clients
pub record MakingsAreRight (r : Rules) (w : World) : Type 0 where
  pub makings : Makings r w
  pub makers : MakersTell r w
  pub requests : RequestsAreOfClients w

-- a target hears of a snapshot or an aggregation: nothing becomes of any attempt
abbrev pub MakingKeepsAttempts : Type 0
MakingKeepsAttempts = (r : Rules) (h : History) (w v : World) → AskedRight r h w → MakingsAreRight r w → Attempts r h w → (g : HearsMore r w v) → IsOfMaking g.hears.l.message → Attempts r h v

-- what a target was at is of a snapshot or an aggregation
abbrev pub IsWorkOfMaking : AtWork → Type 0
IsWorkOfMaking (Hearing l reading number) = IsOfMaking l.message
IsWorkOfMaking IdleWork = ⊥

-- its turn is cut in that
abbrev pub MakingCutsKeepAttempts : Type 0
MakingCutsKeepAttempts = (r : Rules) (h : History) (w v : World) → Attempts r h w → (g : TargetCut r w v) → IsWorkOfMaking g.work → Attempts r h v

-- So each event of a run keeps the facts of attempts, of what is told in it, or would be told if clients waited and the target went on.
abbrev pub AllEventsKeepAttempts : Type 0
AllEventsKeepAttempts =
    (r : Rules) (h later : History) (w v : World) → AskedRight r h w → SendersAreRight w → MakingsAreRight r w → Attempts r h w → (e : WorldEvent r w v)
    → GrowsBy h (told_by e.happens) later → Attempts r later v
