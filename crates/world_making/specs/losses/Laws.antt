-- The laws of losses where snapshots are made and containers aggregated, as statements.
use Rattle.world_causes.specs.world_commit.attempts.History.{History}
use Rattle.world_base.specs.declared.world.World.{World}
use Rattle.world_base.specs.Events.{Rules}
use Rattle.world_base.specs.Stops.{HearsMore, WorldEvent}
use Rattle.world_causes.specs.losses.Keeping.{AllBeside}
use Rattle.world_causes.specs.losses.Losses.{LeadersAreTargets, Losses}
use Rattle.world_making.specs.losses.Refusals.{FreezesAreRefusedSo}
use Rattle.world_making.specs.making.Making.{IsOfMaking}

-- a target hears of a snapshot or an aggregation
abbrev pub MakingKeepsLosses : Type 0
MakingKeepsLosses = (r : Rules) (w v : World) → FreezesAreRefusedSo w → (g : HearsMore r w v) → IsOfMaking g.hears.l.message → Losses r w → Losses r v

-- So each event of a run keeps them, where leaders are targets after it.
abbrev pub AllEventsKeepLosses : Type 0
AllEventsKeepLosses = (r : Rules) (h : History) (w v : World) → AllBeside r h w → FreezesAreRefusedSo w → LeadersAreTargets r v → WorldEvent r w v → Losses r w → Losses r v
