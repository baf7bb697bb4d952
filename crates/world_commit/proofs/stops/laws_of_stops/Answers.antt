use Rattle.world_commit.specs.stops.CutEvents.{cut-keeps}
use Rattle.world_commit.specs.stops.Drawing.{drawing-keeps}
use Rattle.world_commit.specs.stops.Failing.{failing-keeps}
use Rattle.world_commit.specs.stops.Happenings.{world-event-keeps}
use Rattle.world_commit.specs.stops.Openings.{opening-keeps}
use Rattle.world_commit.specs.stops.Stops.{giving-up-keeps, stop-keeps, sweeping-keeps}
use Rattle.world_commit.proofs.stops.laws_of_stops.Goals as goal

pub returns : goal.returns
returns c = record {
  stops = stop-keeps;
  cuts = λ r h later w v right k g plain grows. cut-keeps r h later w v right k g plain grows;
  opens = λ r h later w v g grows k. opening-keeps r h later w v g.t g.number g.s g.free g.here g.after grows k;
  fails = failing-keeps;
  given_up = giving-up-keeps;
  swept = λ r h w k. sweeping-keeps w r h k;
  drawn = drawing-keeps;
  events = world-event-keeps;
}
