use Rattle.std.proofs.Common.{length}
use Rattle.daos_script.proofs.Loop.{IsReadTo}
use Rattle.daos_script.proofs.script.read_script.Given as goal

abbrev pub invariant-loop-line : goal.invariant-loop-line
invariant-loop-line l = IsReadTo l.targets l.bytes l.long l.at l.reading l.lines

abbrev pub decreases-loop-line : goal.decreases-loop-line
decreases-loop-line l = length l.lines
