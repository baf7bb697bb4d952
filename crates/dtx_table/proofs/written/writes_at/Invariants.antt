use Rattle.std.specs.Prelude.{◌≡◌, ◌++◌, drop}
use Rattle.dtx_base.specs.Members.{writes_at}
use Rattle.dtx_table.proofs.written.writes_at.Given as goal

abbrev pub invariant-loop-write : goal.invariant-loop-write
invariant-loop-write l = l.theirs.items ++ writes_at l.targets l.target (drop l.write-index l.writes) ≡ writes_at l.targets l.target l.writes
