-- What happens in a world keeps the facts of attempts, but for what is heard after stops, and for snapshots and aggregation.
use Rattle.std.specs.Prelude.{List, [], ◌++◌}
use Rattle.std.proofs.Common.{sym, subst}
use Rattle.base_messages.specs.declared.message.Post.{Post}
use Rattle.world_commit.specs.attempts.History.{GrowsBy, History}
use Rattle.world_commit.specs.fates.Asked.{AskedRight}
use Rattle.world_commit.specs.fates.Facts.{Attempts}
use Rattle.world_commit.specs.fates.KeepingLaws.{attempts-kept}
use Rattle.world_commit.specs.fates.Rightly.{letters-tell}
use Rattle.world_commit.specs.fates.Told.{silent_at}
use Rattle.world_commit.specs.attempts.Counting.{has-taken}
use Rattle.world_commit.specs.stops.CutEvents.{IsWithoutSnapshots, cut-keeps, cut_told}
use Rattle.world_commit.specs.stops.Cuts.{later-keeps}
use Rattle.world_commit.specs.stops.Drawing.{drawing-keeps}
use Rattle.world_commit.specs.stops.Failing.{failing-keeps}
use Rattle.world_commit.specs.stops.Openings.{opening-keeps, opening_told}
use Rattle.world_commit.specs.stops.Stops.{giving-up-keeps, sweeping-keeps}
use Rattle.world_base.specs.declared.world.World.{World}
use Rattle.world_base.specs.Events.{ByClient, ByTarget, Event, Rules, ToClient, ToTarget, target_after, rightly}
use Rattle.world_base.specs.Stops.{Draws, Fails, Further, GivenUp, Happening, IsCut, Opens, Plainly, WorldEvent}

-- by what is told in an event as without stops attempts are decided and aborted
abbrev pub told_plainly : {r : Rules} {w v : World} → Event r w v → List Post
told_plainly (ByClient g) = []
told_plainly (ToClient g) = []
told_plainly (ToTarget g) = g.did.posts ++ silent_at g.s (target_after g.s g.new g.memory) g.l.message
told_plainly (ByTarget g) = g.did.posts

-- by what is told, or would be told if clients waited and the target went on
abbrev pub told_in : {r : Rules} {w v : World} → Happening r w v → List Post
told_in (Plainly e up) = told_plainly e
told_in (Further g) = []
told_in (IsCut g) = cut_told g.work g.s g.cut
told_in (Opens g) = opening_told g.t g.s.durable
told_in (Fails g) = []
told_in (GivenUp g) = []
told_in (Draws g) = []

-- all but what is heard further, and the cuts of turns of snapshots and aggregations
abbrev pub IsOfAttempts : {r : Rules} {w v : World} → Happening r w v → Type 0
IsOfAttempts (Further g) = ⊥
IsOfAttempts (IsCut g) = IsWithoutSnapshots g.work
IsOfAttempts e = Unit {0}

module _ (r : Rules) (h later : History) (w v : World) (right : AskedRight r h w) (k : Attempts r h w) where
  pub happening-keeps : (e : Happening r w v) → IsOfAttempts e → GrowsBy h (told_in e) later → Attempts r later v
  happening-keeps (Plainly (ByClient g) up) ours grows = attempts-kept r h later w v right k (ByClient g) grows
  happening-keeps (Plainly (ToClient g) up) ours grows = attempts-kept r h later w v right k (ToClient g) grows
  happening-keeps (Plainly (ToTarget g) up) ours grows =
      attempts-kept r h later w v right k (ToTarget (rightly r w v g (letters-tell r h w k g.l g.t g.s (has-taken w.messages g.l g.rest g.takes) g.to_it g.here))) grows
  happening-keeps (Plainly (ByTarget g) up) ours grows = attempts-kept r h later w v right k (ByTarget g) grows
  happening-keeps (Further g) ours grows = absurd ours
  happening-keeps (IsCut g) ours grows = cut-keeps r h later w v right k g ours grows
  happening-keeps (Opens g) ours grows = opening-keeps r h later w v g.t g.number g.s g.free g.here g.after grows k
  happening-keeps (Fails g) ours grows = later-keeps r h later v grows (failing-keeps r h w v g k)
  happening-keeps (GivenUp g) ours grows = later-keeps r h later v grows (giving-up-keeps r h w v g k)
  happening-keeps (Draws g) ours grows = later-keeps r h later v grows (drawing-keeps r h w v g k)

-- and so does an event of a run
pub world-event-keeps : (r : Rules) (h later : History) (w v : World) → AskedRight r h w → Attempts r h w → (e : WorldEvent r w v) → IsOfAttempts e.happens → GrowsBy h (told_in e.happens) later → Attempts r later v
world-event-keeps r h later w v right k e ours grows = subst (Attempts r later) (sym e.after) (sweeping-keeps e.u r later (happening-keeps r h later w e.u right k e.happens ours grows))
