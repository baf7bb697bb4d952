use Rattle.std.proofs.Common.{◌-◌, length}
use Rattle.vos_scan.specs.Indexed.{IsIndexOf}
use Rattle.vos_scan.proofs.index.ReadIndex.extend.Given as goal

abbrev pub invariant-loop-self : goal.invariant-loop-self
invariant-loop-self l = IsIndexOf l.self l.rows

abbrev pub decreases-loop-self : goal.decreases-loop-self
decreases-loop-self l = length l.rows - l.self.covered
