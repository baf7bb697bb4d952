use Rattle.std.proofs.Common.{◌≡◌, drop}
use Rattle.replay_dtx.specs.Dtx.{all_confirmed}
use Rattle.replay_dtx.proofs.marks.all_confirmed.Given as goal

-- what is left leads to the same
abbrev pub invariant-loop-attempt : goal.invariant-loop-attempt
invariant-loop-attempt l = all_confirmed l.plan l.member (drop l.attempt-index l.attempts) l.start ≡ all_confirmed l.plan l.member l.attempts l.initial.start
