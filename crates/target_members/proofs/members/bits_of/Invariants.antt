use Rattle.std.proofs.Common.{◌≡◌, ◌≤◌, drop, length}
use Rattle.world_base.specs.Commits.{bits_of}
use Rattle.target_members.proofs.members.bits_of.Given as goal

abbrev pub invariant-loop-i : goal.invariant-loop-i
invariant-loop-i l = record { within : l.i ≤ length l.targets; bits : l.bits ≡ bits_of (drop l.i l.targets) }

abbrev pub decreases-loop-i : goal.decreases-loop-i
decreases-loop-i l = l.i
