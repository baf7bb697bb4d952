use Rattle.std.proofs.Common.{◌≡◌, take}
use Rattle.world_base.specs.Stops.{resets}
use Rattle.run_base.proofs.losing.resets.Given as goal

-- who sent those so far to the target is told so
abbrev pub invariant-loop-letter : goal.invariant-loop-letter
invariant-loop-letter l = l.told.items ≡ resets l.target l.down (take l.letter-index l.asked)
