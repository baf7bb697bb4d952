use Rattle.replay_writes.proofs.Reading.{RisesTo}
use Rattle.replay_writes.proofs.forms.are_rising.Given as goal

abbrev pub invariant-loop-i : goal.invariant-loop-i
invariant-loop-i l = RisesTo l.writes l.i
