-- The grounds of any run, and beside them what tells of a stop and of targets that are down, what was stored once, and whose versions and
-- timestamps there are.
use Rattle.std.specs.Prelude.{◌++◌, []}
use Rattle.daos_model.specs.Opening.{Opening, top}
use Rattle.world_legal.specs.world_commit.attempts.History.{GrowsBy, History}
use Rattle.world_legal.specs.world_commit.statuses.Events.{told_by}
use Rattle.world_base.specs.declared.world.World.{World}
use Rattle.world_base.specs.Events.{Rules}
use Rattle.world_base.specs.Stops.{WorldEvent, WorldRun}
use Rattle.world_legal.specs.world_causes.causes.Causes.{Stored}
use Rattle.world_legal.specs.reasons.Accounted.{stored_over}
use Rattle.world_legal.specs.reasons.Downs.{DownsAreTold}
use Rattle.world_legal.specs.reasons.Knowing.{DownsAreKnown}
use Rattle.world_legal.specs.world_causes.losses.Losses.{Losses}
use Rattle.world_owners.specs.world_making.losses.Refusals.{FreezesAreRefusedSo}
use Rattle.world_legal.specs.world_causes.showing.Happening.{stored_in}
use Rattle.world_legal.specs.world_causes.stored.Over.{StoringOver}
use Rattle.world_upheld.specs.stored.Writing.{StoredWrite}
use Rattle.world_owners.specs.Owners.{AllKeepOwn}
use Rattle.world_readers.specs.stamps.Stamps.{StampsAreOwn}
use Rattle.world_upheld.specs.upheld.Begins.{AreRulesInForm, RunBeginsWell, no_history}
use Rattle.world_upheld.specs.upheld.Upheld.{Grounds}

-- ---- the facts

-- The grounds of a run, of what was decided and aborted; by what freezes are refused; that what tells of a stop has one, and of a target that is
-- down the line that it was given up, as what leaders know of such; what was stored, once, of attempts with writes; and whose versions
-- and timestamps there are.
pub record AccountedFor (r : Rules) (o : Opening) (h : History) (stored : Stored) (w : World) : Type 0 where
  pub grounds : Grounds r o h w
  pub refusals : FreezesAreRefusedSo w
  pub losses : Losses r w
  pub downs : DownsAreTold w
  pub knows : DownsAreKnown w
  pub write : StoredWrite r stored
  pub once : StoringOver r stored w
  pub owned : AllKeepOwn r (top o) stored w
  pub stamped : StampsAreOwn r w

-- ---- the statements

-- Each event of a run of a script in form keeps it, with what is stored in it, of what is decided and aborted by then.
abbrev pub AllEventsKeepAccounts : Type 0
AllEventsKeepAccounts =
    (r : Rules) (o : Opening) (h later : History) (stored : Stored) (w v : World) → AreRulesInForm r → AccountedFor r o h stored w → (e : WorldEvent r w v)
    → GrowsBy h (told_by e.happens) later → AccountedFor r o later (stored_in r e.happens ++ stored) v

-- a run begins with it, whatever its targets' versions stand for, where nothing is stored yet
abbrev pub RunsBeginAccountedFor : Type 0
RunsBeginAccountedFor = (r : Rules) (o : Opening) (w : World) → AreRulesInForm r → RunBeginsWell r o w → AccountedFor r o no_history [] w

-- so it holds at each moment of the run, of what was decided, aborted and stored by then
abbrev pub RunsAreAccountedFor : Type 0
RunsAreAccountedFor =
    (r : Rules) (o : Opening) (w v : World) → AreRulesInForm r → RunBeginsWell r o w → (run : WorldRun r w v)
    → (h : History) × AccountedFor r o h (stored_over r run) v
