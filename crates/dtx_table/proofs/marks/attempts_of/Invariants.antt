use Rattle.std.specs.Prelude.{◌≡◌, take}
use Rattle.dtx_base.specs.Leading.{attempts_of}
use Rattle.dtx_table.proofs.marks.attempts_of.Given as goal

abbrev pub invariant-loop-mark : goal.invariant-loop-mark
invariant-loop-mark l = l.attempts.items ≡ attempts_of (take l.mark-index l.marks)
