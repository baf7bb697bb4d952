use Rattle.std.proofs.Common.{◌≡◌, drop}
use Rattle.replay_dtx.specs.Dtx.{all_marked}
use Rattle.replay_dtx.proofs.marks.all_marked.Given as goal

-- what is left leads to the same
abbrev pub invariant-loop-mark : goal.invariant-loop-mark
invariant-loop-mark l = all_marked (drop l.mark-index l.marks) l.start ≡ all_marked l.marks l.initial.start
