-- What was stored in a run.
use Rattle.std.specs.Prelude.{◌++◌, []}
use Rattle.world_base.specs.declared.world.World.{World}
use Rattle.world_base.specs.Events.{Rules}
use Rattle.world_base.specs.Stops.{Begins, Goes, WorldRun}
use Rattle.world_standing.specs.world_causes.causes.Causes.{Stored}
use Rattle.world_standing.specs.world_causes.showing.Happening.{stored_in}

-- what was stored in a run, or was about to be when its target stopped
abbrev pub stored_over : (r : Rules) {w v : World} → WorldRun r w v → Stored
stored_over r Begins = []
stored_over r (Goes u v run e) = stored_in r e.happens ++ stored_over r run
