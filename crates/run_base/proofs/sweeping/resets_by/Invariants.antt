use Rattle.std.proofs.Common.{◌≡◌, filter, map, take, true}
use Rattle.run_base.specs.Sweeps.{is_lost_by}
use Rattle.world_base.specs.Stops.{reset_letter}
use Rattle.run_base.proofs.sweeping.resets_by.Given as goal

-- who sent those so far to a target that is given up is told so
abbrev pub invariant-loop-letter : goal.invariant-loop-letter
invariant-loop-letter l = l.told.items ≡ map (reset_letter true) (filter (is_lost_by l.lives) (take l.letter-index l.asked))
