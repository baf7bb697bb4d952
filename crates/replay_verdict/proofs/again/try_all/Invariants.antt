use Rattle.replay_verdict.proofs.Trying.{SoFar}
use Rattle.replay_verdict.proofs.again.try_all.Given as goal

-- these were tried so far
abbrev pub invariant-loop-ask : goal.invariant-loop-ask
invariant-loop-ask l = SoFar l.plan l.asks l.initial.trial l.ask-index l.trial
