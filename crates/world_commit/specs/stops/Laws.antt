-- The laws of stops and openings, as statements.
use Rattle.std.specs.Prelude.{ℕ, ◌≡◌, slice_get, Some}
use Rattle.world_commit.specs.attempts.History.{GrowsBy, History}
use Rattle.world_commit.specs.fates.Asked.{AskedRight}
use Rattle.world_commit.specs.fates.Facts.{Attempts}
use Rattle.world_commit.specs.stops.CutEvents.{IsWithoutSnapshots, cut_told}
use Rattle.world_commit.specs.stops.Happenings.{IsOfAttempts, told_in}
use Rattle.world_commit.specs.stops.Openings.{opening_told}
use Rattle.world_base.specs.declared.target.TargetState.{TargetState}
use Rattle.world_base.specs.declared.world.World.{World}
use Rattle.world_base.specs.CutTurns.{Cutting}
use Rattle.world_base.specs.Events.{Rules}
use Rattle.world_base.specs.Stops.{NumbersDrawn, OpeningFails, TargetCut, TargetGivenUp, TargetOpens, WorldEvent, after_cut, swept}

-- a target that stops, where what it keeps is as before
abbrev pub StopsKeepAttempts : Type 0
StopsKeepAttempts = (r : Rules) (h : History) (w v : World) (t : ℕ) (s : TargetState) (cut : Cutting) → slice_get w.targets t ≡ Some s → cut.left.durable ≡ s.durable → v ≡ after_cut w t s cut → Attempts r h w → Attempts r h v

-- a turn that is cut, of no snapshot and no aggregation, of what is aborted by then
abbrev pub CutsKeepAttempts : Type 0
CutsKeepAttempts =
    (r : Rules) (h later : History) (w v : World) → AskedRight r h w → Attempts r h w → (g : TargetCut r w v) → IsWithoutSnapshots g.work → GrowsBy h (cut_told g.work g.s g.cut) later → Attempts r later v

-- one that opens, of what is decided by then
abbrev pub OpeningsKeepAttempts : Type 0
OpeningsKeepAttempts = (r : Rules) (h later : History) (w v : World) (g : TargetOpens r w v) → GrowsBy h (opening_told g.t g.s.durable) later → Attempts r h w → Attempts r later v

-- one that fails to open
abbrev pub FailedOpeningsKeepAttempts : Type 0
FailedOpeningsKeepAttempts = (r : Rules) (h : History) (w v : World) → OpeningFails r w v → Attempts r h w → Attempts r h v

-- one that is given up
abbrev pub GivenUpTargetsKeepAttempts : Type 0
GivenUpTargetsKeepAttempts = (r : Rules) (h : History) (w v : World) → TargetGivenUp r w v → Attempts r h w → Attempts r h v

-- what goes to those that are given up is lost
abbrev pub SweepingKeepsAttempts : Type 0
SweepingKeepsAttempts = (r : Rules) (h : History) (w : World) → Attempts r h w → Attempts r h (swept w)

-- and numbers are drawn
abbrev pub DrawnNumbersKeepAttempts : Type 0
DrawnNumbersKeepAttempts = (r : Rules) (h : History) (w v : World) → NumbersDrawn w v → Attempts r h w → Attempts r h v

-- So each event of a run keeps them, of what is told in it, or would be told if clients waited and the target went on. What is heard after
-- stops isn't treated here, nor what is heard for snapshots and aggregation.
abbrev pub WorldEventsKeepAttempts : Type 0
WorldEventsKeepAttempts =
    (r : Rules) (h later : History) (w v : World) → AskedRight r h w → Attempts r h w → (e : WorldEvent r w v) → IsOfAttempts e.happens → GrowsBy h (told_in e.happens) later → Attempts r later v
