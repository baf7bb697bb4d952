-- What a list of events is asked for, so that the turns of its clients can be made.
use Rattle.std.specs.Prelude.{ℕ, ◌≡◌, slice_get, Some}
use Rattle.client_core.specs.Clients.{IsInPlace, PlanFits}
use Rattle.world_base.specs.declared.client.ClientState.{ClientState}
use Rattle.world_base.specs.declared.world.World.{World}
use Rattle.world_base.specs.Events.{Rules, client_plan}

-- what each client has to do can be done
abbrev pub PlansFit : Rules → Type 0
PlansFit r = (n : ℕ) → PlanFits (client_plan r n)

-- each client of a world has come as far as its numbers say
abbrev pub AreInPlace : Rules → World → Type 0
AreInPlace r w = (n : ℕ) (c : ClientState) → slice_get w.clients n ≡ Some c → IsInPlace (client_plan r n) c

-- a list of events starts well: what its clients have to do can be done, and they have come as far as their numbers say
pub record StartsWell (r : Rules) (w : World) : Type 0 where
  pub plans : PlansFit r
  pub places : AreInPlace r w
