-- Each event of a run keeps the facts of losses.
use Rattle.std.specs.Prelude.{◌≡◌, Bool, true, false, refl}
use Rattle.std.proofs.Common.{sym, subst}
use Rattle.base_messages.specs.declared.message.Message.TheVariants as message
use Rattle.world_causes.specs.world_commit.attempts.History.{History}
use Rattle.world_base.specs.declared.world.World.{World}
use Rattle.world_base.specs.Events.{ByClient, ByTarget, Rules, ToClient, ToTarget}
use Rattle.world_base.specs.Stops.{Draws, Fails, Further, GivenUp, Happening, HearsMore, IsCut, Opens, Plainly, swept}
use Rattle.world_causes.specs.losses.ClientTurns as clients
use Rattle.world_causes.specs.losses.Keeping.{AllBeside}
use Rattle.world_causes.specs.losses.Laws.{cuts-keep, drawing-keeps, failures-keep, further-keeps, giving-up-keeps, hearing-keeps, idle-work-keeps, openings-keep, sweeping-keeps}
use Rattle.world_causes.specs.losses.Losses.{LeadersAreTargets, Losses}
use Rattle.world_causes.specs.losses.Recalling.{recalling-keeps}
use Rattle.world_making.specs.losses.Laws.{AllEventsKeepLosses, MakingKeepsLosses}
use Rattle.world_making.specs.losses.Refusals.{FreezesAreRefusedSo}
use Rattle.world_making.specs.losses.Tells.{making-recalls}
use Rattle.world_making.specs.making.Making.{tells_of_snapshots}
use Rattle.world_making.specs.making.Kinds.{of-attempts}

pub making-keeps-losses : MakingKeepsLosses
making-keeps-losses r w v refusals g is k = recalling-keeps r w v (making-recalls g.number r w v k refusals g.hears is) k

-- ---- every event

module _ (r : Rules) (h : History) (w v : World) (b : AllBeside r h w) (refusals : FreezesAreRefusedSo w) (leads : LeadersAreTargets r v) (k : Losses r w) where
  heard-keeps : (g : HearsMore r w v) (making : Bool) → tells_of_snapshots g.hears.l.message ≡ making → Losses r v
  heard-keeps g true is = making-keeps-losses r w v refusals g is k
  heard-keeps g false off = further-keeps r h w v b.new b.attempts g (of-attempts g.hears.l.message off) k

  happening-keeps : Happening r w v → Losses r v
  happening-keeps (Plainly (ByClient g) up) = clients.going-keeps r w v b.begun g k
  happening-keeps (Plainly (ToClient g) up) = clients.hearing-keeps r w v b.begun b.lost g k
  happening-keeps (Plainly (ToTarget g) up) = hearing-keeps r h w v b.new b.held b.attempts g k
  happening-keeps (Plainly (ByTarget g) up) = idle-work-keeps r w v g k
  happening-keeps (Further g) = heard-keeps g (tells_of_snapshots g.hears.l.message) refl
  happening-keeps (IsCut g) = cuts-keep r w v b.asks leads k g
  happening-keeps (Opens g) = openings-keep r h w v b.attempts k g
  happening-keeps (Fails g) = failures-keep r w v k g
  happening-keeps (GivenUp g) = giving-up-keeps r w v k g
  happening-keeps (Draws g) = drawing-keeps r w v k g

-- what is swept changes neither targets nor clients
leads-unswept : (r : Rules) (u : World) → LeadersAreTargets r (swept u) → LeadersAreTargets r u
leads-unswept r u leads x at held = leads x at (record { entry = held.entry; found = held.found })

pub all-events-keep-losses : AllEventsKeepLosses
all-events-keep-losses r h w v b refusals leads e k =
    subst (Losses r) (sym e.after) (sweeping-keeps r e.u (happening-keeps r h w e.u b refusals (leads-unswept r e.u (subst (LeadersAreTargets r) e.after leads)) k e.happens))
