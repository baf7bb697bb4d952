use Rattle.std.proofs.Common.{◌+◌, ◌-◌, ◌≤◌}
use Rattle.vos_extent.proofs.Painting.{SoFar}
use Rattle.vos_extent.proofs.cells.paint.Given as goal

-- the indexes so far have their records
abbrev pub invariant-loop-i : goal.invariant-loop-i
invariant-loop-i l = record {
  so_far : SoFar l.unit l.first l.low l.moment l.bytes l.initial.cells l.i l.cells;
  from : l.low ≤ l.first + l.i;
}

abbrev pub decreases-loop-i : goal.decreases-loop-i
decreases-loop-i l = l.to - l.i
