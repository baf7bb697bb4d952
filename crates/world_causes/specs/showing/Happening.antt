-- What is stored in what happens.
use Rattle.std.specs.Prelude.{[]}
use Rattle.world_base.specs.declared.world.World.{World}
use Rattle.world_base.specs.Events.{ByClient, ByTarget, Rules, ToClient, ToTarget, target_plan}
use Rattle.world_base.specs.Stops.{Draws, Fails, Further, GivenUp, Happening, IsCut, Opens, Plainly}
use Rattle.world_causes.specs.causes.Causes.{Stored, stored_by}
use Rattle.world_causes.specs.showing.Cutting.{work_stored}

-- the attempts that a target has entries of now, and had none; and where its turn is cut, the one that it was about to store
abbrev pub stored_in : (r : Rules) → {w v : World} → Happening r w v → Stored
stored_in r (Plainly (ByClient g) up) = []
stored_in r (Plainly (ToClient g) up) = []
stored_in r (Plainly (ToTarget g) up) = stored_by g.t g.s.durable g.new.durable
stored_in r (Plainly (ByTarget g) up) = stored_by g.t g.s.durable g.new.durable
stored_in r (Further g) = stored_by g.hears.t g.hears.s.durable g.hears.new.durable
stored_in r (IsCut g) = work_stored (target_plan r g.t) g.s g.work g.cut g.turn
stored_in r (Opens g) = []
stored_in r (Fails g) = []
stored_in r (GivenUp g) = []
stored_in r (Draws g) = []
