-- What goes on together in any run where the order of real time stands.
use Rattle.std.specs.Prelude.{ℕ, List}
use Rattle.daos_model.specs.declared.durable.Version.{Version}
use Rattle.daos_model.specs.Opening.{Opening}
use Rattle.world_base.specs.declared.world.World.{World}
use Rattle.world_base.specs.Events.{Rules}
use Rattle.world_upheld.specs.world_commit.attempts.History.{Grew, History, Served}
use Rattle.world_upheld.specs.world_contents.gots.Gots.{Gots}
use Rattle.world_upheld.specs.order.Passing.{OrderStands}
use Rattle.world_upheld.specs.upheld.Upheld.{Upheld}

-- All that is upheld; what clients were told was served, of these reads; and those of them that are at no snapshot, and what is stored, lie behind
-- what was answered before.
pub record StandsInOrder (r : Rules) (o : Opening) (held : ℕ → List Version) (h : History) (w : World) : Type 0 where
  pub upheld : Upheld r o held h w
  pub passed : List Served
  pub gots : Gots r (record h { served = passed }) w
  pub order : OrderStands r passed w

-- it is so of what was decided, aborted and served by now, which is all that was before, and perhaps more
pub record StandsInOrderStill (r : Rules) (o : Opening) (held : ℕ → List Version) (h : History) (v : World) : Type 0 where
  pub later : History
  pub grew : Grew h later
  pub stands : StandsInOrder r o held later v
