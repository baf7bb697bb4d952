-- What holds of each world that a run has reached, as a law.
use Rattle.std.specs.Prelude.{◌≡◌}
use Rattle.run_laws.specs.shows.Shows.{WasReached}
use Rattle.world_base.specs.declared.world.World.{World}
use Rattle.world_base.specs.Events.{Rules}
use Rattle.world_base.specs.Stops.{swept}

-- nothing goes to a target that was given up
abbrev pub ReachedIsSwept : Type 0
ReachedIsSwept = (r : Rules) (w : World) → WasReached r w → swept w ≡ w
