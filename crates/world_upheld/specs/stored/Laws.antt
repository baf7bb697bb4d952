-- The laws of what is stored once where snapshots are made and containers aggregated, as statements.
use Rattle.std.specs.Prelude.{◌≡◌, ◌⊎◌, ◌++◌, []}
use Rattle.world_legal.specs.world_commit.attempts.History.{History}
use Rattle.world_base.specs.declared.world.World.{World}
use Rattle.world_base.specs.Events.{ClientGoes, ClientHears, Rules}
use Rattle.world_base.specs.Stops.{Happening, HearsMore, WorldEvent}
use Rattle.world_legal.specs.world_causes.causes.Causes.{Stored, stored_by}
use Rattle.world_letters.specs.epochs.Epochs.{ClientsStand}
use Rattle.world_legal.specs.world_commit.fates.Facts.{Attempts}
use Rattle.world_owners.specs.world_making.makers.Makers.{MakersTell}
use Rattle.world_owners.specs.world_making.making.Making.{IsOfMaking}
use Rattle.world_legal.specs.world_causes.outcomes.Premises.{HandsOver}
use Rattle.world_legal.specs.world_causes.showing.Happening.{stored_in}
use Rattle.world_letters.specs.snapshots.Makings.{Makings}
use Rattle.world_legal.specs.world_causes.stored.Over.{IsStoringKnown, StoringOver}
use Rattle.world_upheld.specs.stored.Clients.{IsTalkKnown}
use Rattle.world_upheld.specs.stored.Makers.{EndMakers}
use Rattle.world_upheld.specs.stored.Writing.{IsWritingKnown, StoredWrite}

-- ---- a turn

-- a target that hears of a snapshot or an aggregation stores nothing
abbrev pub MakingStoresNothing : Type 0
MakingStoresNothing = (r : Rules) (w v : World) → (g : HearsMore r w v) → IsOfMaking g.hears.l.message → stored_by g.hears.t g.hears.s.durable g.hears.new.durable ≡ []

-- and tells only how an attempt ended that makes one or aggregates
abbrev pub MakingEndsMakers : Type 0
MakingEndsMakers = (r : Rules) (w v : World) → Makings r w → MakersTell r w → (g : HearsMore r w v) → IsOfMaking g.hears.l.message → EndMakers r g.hears.did.posts

-- ---- what is stored is of attempts with writes

abbrev pub StoredWritesBegin : Type 0
StoredWritesBegin = (r : Rules) → StoredWrite r []

abbrev pub HappeningsKeepStoredWrites : Type 0
HappeningsKeepStoredWrites = (r : Rules) (h : History) (stored : Stored) (w v : World) → IsWritingKnown r h w v → (e : Happening r w v) → StoredWrite r stored
    → StoredWrite r (stored_in r e ++ stored)

-- ---- what is stored once

-- what else is known: snapshots and aggregations come of attempts that make them, and clients stand at their commands
pub record IsMakingKnown (r : Rules) (w : World) : Type 0 where
  pub makings : Makings r w
  pub makers : MakersTell r w
  pub stand : ClientsStand r w

abbrev pub MakingKeepsStored : Type 0
MakingKeepsStored =
    (r : Rules) (h : History) (stored : Stored) (w v : World) → Attempts r h w → HandsOver r w → IsMakingKnown r w → StoredWrite r stored → (g : HearsMore r w v)
    → IsOfMaking g.hears.l.message
    → StoringOver r stored w → StoringOver r (stored_by g.hears.t g.hears.s.durable g.hears.new.durable ++ stored) v

-- what clients do, also where they read at snapshots
abbrev pub AllClientsKeepStored : Type 0
AllClientsKeepStored = (r : Rules) (h : History) (stored : Stored) (w v : World) → IsTalkKnown r h w → ClientGoes r w v ⊎ ClientHears r w v → StoringOver r stored w
    → StoringOver r stored v

-- So whatever happens keeps it, of what it stores besides.
abbrev pub AllHappeningsKeepStored : Type 0
AllHappeningsKeepStored =
    (r : Rules) (h later : History) (stored : Stored) (w v : World) → IsStoringKnown r h later w v → IsMakingKnown r w → IsTalkKnown r h w → StoredWrite r stored
    → (e : Happening r w v)
    → StoringOver r stored w → StoringOver r (stored_in r e ++ stored) v

-- And so does each event of a run, of what is known once it happened.
abbrev pub AllEventsKeepStored : Type 0
AllEventsKeepStored =
    (r : Rules) (h later : History) (stored : Stored) (w v : World) → (e : WorldEvent r w v) → IsStoringKnown r h later w e.u → IsMakingKnown r w → IsTalkKnown r h w
    → StoredWrite r stored
    → StoringOver r stored w → StoringOver r (stored_in r e.happens ++ stored) v
