use Rattle.client_core.proofs.Lighter.{weight}
use Rattle.client_core.proofs.TurnSteps.{SoFar}
use Rattle.client_core.proofs.turns.goes_on.Given as goal

abbrev pub invariant-loop-state : goal.invariant-loop-state
invariant-loop-state l = SoFar l.plan l.fn.start l.did l.state

abbrev pub decreases-loop-state : goal.decreases-loop-state
decreases-loop-state l = weight l.plan l.state
