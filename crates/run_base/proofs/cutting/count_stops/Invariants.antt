use Rattle.std.proofs.Common.{◌≡◌, ◌≤◌, take}
use Rattle.world_base.specs.Stops.{stops_so_far}
use Rattle.run_base.proofs.cutting.count_stops.Given as goal

-- the stops so far were counted
abbrev pub invariant-loop-line : goal.invariant-loop-line
invariant-loop-line l = (l.stops ≡ stops_so_far (take l.line-index l.lines)) × (l.stops ≤ l.line-index)
