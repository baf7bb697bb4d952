use Rattle.std.specs.Prelude.{◌≡◌, ◌++◌, drop, filter}
use Rattle.run_opening.specs.Steps.{is_dropped}
use Rattle.run_opening.proofs.snaps.dropped_of.Given as goal

-- those so far, with those of the rest, are all
abbrev pub invariant-loop-snap : goal.invariant-loop-snap
invariant-loop-snap l = l.gone.items ++ filter (is_dropped l.script) (drop l.snap-index l.snaps) ≡ filter (is_dropped l.script) l.snaps
