use Rattle.run_targets.proofs.Reading.{AreReadTo}
use Rattle.run_targets.proofs.report.first_down.Given as goal

-- the lines so far were read
abbrev pub invariant-loop-line : goal.invariant-loop-line
invariant-loop-line l = AreReadTo l.line-index l.lines l.first
