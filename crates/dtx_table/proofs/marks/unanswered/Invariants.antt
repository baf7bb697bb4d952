use Rattle.std.specs.Prelude.{◌≡◌, ◌++◌, drop}
use Rattle.dtx_base.specs.Leading.{answered}
use Rattle.dtx_table.proofs.marks.unanswered.Given as goal

abbrev pub invariant-loop-naming : goal.invariant-loop-naming
invariant-loop-naming l = l.left.items ++ answered l.member l.inc l.attempts (drop l.naming-index l.named) ≡ answered l.member l.inc l.attempts l.named
