use Rattle.std.proofs.Common.{◌≡◌, drop}
use Rattle.replay_dtx.specs.Dtx.{all_settled}
use Rattle.replay_dtx.proofs.idle.all_settled.Given as goal

-- what is left leads to the same
abbrev pub invariant-loop-attempt : goal.invariant-loop-attempt
invariant-loop-attempt l = all_settled (drop l.attempt-index l.decided) l.start ≡ all_settled l.decided l.initial.start
