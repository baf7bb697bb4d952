-- The laws of what ends attempts, as statements.
use Rattle.std.specs.Prelude.{◌≡◌, []}
use Rattle.world_base.specs.declared.world.World.{World}
use Rattle.world_base.specs.Events.{Rules}
use Rattle.world_base.specs.Stops.{WorldEvent}
use Rattle.world_letters.specs.lines.Lines.{Endings}

abbrev pub EndingsBegin : Type 0
EndingsBegin = (w : World) → w.messages ≡ [] → Endings w

abbrev pub EventsKeepEndings : Type 0
EventsKeepEndings = (r : Rules) (w v : World) → WorldEvent r w v → Endings w → Endings v
