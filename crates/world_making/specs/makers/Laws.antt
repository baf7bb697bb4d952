-- The laws of who makes snapshots and aggregates, as statements.
use Rattle.std.specs.Prelude.{◌≡◌, []}
use Rattle.world_base.specs.declared.world.World.{World}
use Rattle.world_base.specs.Events.{Rules}
use Rattle.world_base.specs.Stops.{WorldEvent}
use Rattle.world_letters.specs.lines.Lines.{Endings}
use Rattle.world_making.specs.makers.Makers.{MakersTell}
use Rattle.world_causes.specs.outcomes.Premises.{MakersWriteNothing}
use Rattle.world_letters.specs.snapshots.Makings.{Makings}

-- where nothing is in flight and without an answer
abbrev pub MakersBegin : Type 0
MakersBegin = (r : Rules) (w : World) → w.messages ≡ [] → w.asked ≡ [] → MakersTell r w

-- every event of a run, where snapshots and aggregations come of attempts that make them
abbrev pub EventsKeepMakers : Type 0
EventsKeepMakers = (r : Rules) (w v : World) → WorldEvent r w v → Endings w → Makings r w → MakersTell r w → MakersTell r v

-- so what is asked or told of snapshots and aggregations is about attempts without writes
abbrev pub MakersWrite : Type 0
MakersWrite = (r : Rules) (w : World) → Makings r w → MakersTell r w → MakersWriteNothing r w
