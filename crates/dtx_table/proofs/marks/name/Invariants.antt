use Rattle.std.specs.Prelude.{◌≡◌, ◌++◌, map, take}
use Rattle.dtx_base.specs.Leading.{naming}
use Rattle.dtx_table.proofs.marks.name.Given as goal

abbrev pub invariant-loop-attempt : goal.invariant-loop-attempt
invariant-loop-attempt l = l.named.items ≡ l.initial.named.items ++ map (naming l.member l.inc) (take l.attempt-index l.attempts)
