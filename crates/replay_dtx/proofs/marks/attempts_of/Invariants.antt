use Rattle.std.proofs.Common.{◌≡◌, take}
use Rattle.dtx_base.specs.Leading.{attempts_of}
use Rattle.replay_dtx.proofs.marks.attempts_of.Given as goal

abbrev pub invariant-loop-mark : goal.invariant-loop-mark
invariant-loop-mark l = l.ids ≡ attempts_of (take l.mark-index l.marks)
