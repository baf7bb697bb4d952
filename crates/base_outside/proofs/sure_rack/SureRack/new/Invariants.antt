use Rattle.std.proofs.Common.{◌≡◌, Some, replicate}
use Rattle.base_outside.proofs.sure_rack.SureRack.new.Given as goal

-- each region so far is at home and all zero
abbrev pub invariant-loop-target : goal.invariant-loop-target
invariant-loop-target l = l.regions.items ≡ replicate l._target (Some (replicate l.size 0))
