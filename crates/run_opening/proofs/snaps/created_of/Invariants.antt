use Rattle.std.specs.Prelude.{◌≡◌, ◌++◌, drop, filter}
use Rattle.daos_model.specs.Family.{is_created}
use Rattle.run_opening.proofs.snaps.created_of.Given as goal

-- those so far, with those of the rest, are all
abbrev pub invariant-loop-snap : goal.invariant-loop-snap
invariant-loop-snap l = l.created.items ++ filter is_created (drop l.snap-index l.snaps) ≡ filter is_created l.snaps
