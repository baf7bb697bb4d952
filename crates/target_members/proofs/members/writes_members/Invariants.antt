use Rattle.std.proofs.Common.{◌≡◌, ◌++◌, drop}
use Rattle.base_types.specs.Placement.{writes_members}
use Rattle.target_members.proofs.members.writes_members.Given as goal

abbrev pub invariant-loop-write : goal.invariant-loop-write
invariant-loop-write l = l.all.items ++ writes_members (drop l.write-index l.writes) l.targets ≡ writes_members l.writes l.targets
