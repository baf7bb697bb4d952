-- Each event of a run in which nothing is done for snapshots and aggregation keeps the facts of attempts.
use Rattle.std.specs.Prelude.{◌≡◌, true, List}
use Rattle.std.proofs.Common.{sym, subst}
use Rattle.base_messages.specs.declared.message.Post.{Post}
use Rattle.world_commit.specs.attempts.History.{GrowsBy, History}
use Rattle.world_commit.specs.fates.Asked.{AskedRight}
use Rattle.world_commit.specs.fates.Facts.{Attempts}
use Rattle.world_commit.specs.statuses.Fates.{told_further}
use Rattle.world_commit.specs.statuses.Heard.{further-keeps, is_of_attempts}
use Rattle.world_commit.specs.statuses.Senders.{SendersAreRight}
use Rattle.world_commit.specs.stops.CutEvents.{IsWithoutSnapshots}
use Rattle.world_commit.specs.stops.Happenings.{happening-keeps, told_in}
use Rattle.world_commit.specs.stops.Stops.{sweeping-keeps}
use Rattle.world_base.specs.declared.world.World.{World}
use Rattle.world_base.specs.Events.{Rules}
use Rattle.world_base.specs.Stops.{Draws, Fails, Further, GivenUp, Happening, IsCut, Opens, Plainly, WorldEvent}

-- in an event, or in a turn that was cut, nothing is heard for a snapshot or an aggregation
abbrev pub HappensWithoutSnapshots : {r : Rules} {w v : World} → Happening r w v → Type 0
HappensWithoutSnapshots (Further g) = is_of_attempts g.hears.l.message ≡ true
HappensWithoutSnapshots (IsCut g) = IsWithoutSnapshots g.work
HappensWithoutSnapshots e = Unit {0}

-- what is told in it, or would be told if clients waited and the target went on
abbrev pub told_by : {r : Rules} {w v : World} → Happening r w v → List Post
told_by (Further g) = told_further g
told_by e = told_in e

abbrev pub EventsKeepAttempts : Type 0
EventsKeepAttempts =
    (r : Rules) (h later : History) (w v : World) → AskedRight r h w → SendersAreRight w → Attempts r h w → (e : WorldEvent r w v) → HappensWithoutSnapshots e.happens → GrowsBy h (told_by e.happens) later → Attempts r later v

module _ (r : Rules) (h later : History) (w v : World) (right : AskedRight r h w) (senders : SendersAreRight w) (k : Attempts r h w) where
  pub happens-keeps : (e : Happening r w v) → HappensWithoutSnapshots e → GrowsBy h (told_by e) later → Attempts r later v
  happens-keeps (Further g) ours grows = further-keeps r h later w v right senders k g ours grows
  happens-keeps (IsCut g) ours grows = happening-keeps r h later w v right k (IsCut g) ours grows
  happens-keeps (Plainly e up) ours grows = happening-keeps r h later w v right k (Plainly e up) tt grows
  happens-keeps (Opens g) ours grows = happening-keeps r h later w v right k (Opens g) tt grows
  happens-keeps (Fails g) ours grows = happening-keeps r h later w v right k (Fails g) tt grows
  happens-keeps (GivenUp g) ours grows = happening-keeps r h later w v right k (GivenUp g) tt grows
  happens-keeps (Draws g) ours grows = happening-keeps r h later w v right k (Draws g) tt grows

pub events-keep : EventsKeepAttempts
events-keep r h later w v right senders k e ours grows = subst (Attempts r later) (sym e.after) (sweeping-keeps e.u r later (happens-keeps r h later w e.u right senders k e.happens ours grows))
