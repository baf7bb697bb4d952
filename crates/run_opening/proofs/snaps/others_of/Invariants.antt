use Rattle.std.specs.Prelude.{◌≡◌, ◌++◌, drop, filter}
use Rattle.run_opening.specs.Steps.{is_other_than}
use Rattle.run_opening.proofs.snaps.others_of.Given as goal

-- those so far, with those of the rest, are all
abbrev pub invariant-loop-snap : goal.invariant-loop-snap
invariant-loop-snap l = l.gone.items ++ filter (is_other_than l.some) (drop l.snap-index l.snaps) ≡ filter (is_other_than l.some) l.snaps
