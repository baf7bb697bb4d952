-- With what a run of actors begins.
use Rattle.daos_model.specs.Opening.{Opening}
use Rattle.world_base.specs.declared.world.World.{World}
use Rattle.world_base.specs.Events.{Rules}
use Rattle.world_closing.specs.Below.{AreRulesInForm, HoldNoMoreSnapshots, RunBeginsWith}

-- A script in form for some targets; these have opened, and hold no more snapshots than the opening keeps maps of; and clients before their first
-- turns.
pub record RunBegins (r : Rules) (o : Opening) (w : World) : Type 0 where
  pub form : AreRulesInForm r
  pub begins : RunBeginsWith r o w
  pub few : HoldNoMoreSnapshots o w
