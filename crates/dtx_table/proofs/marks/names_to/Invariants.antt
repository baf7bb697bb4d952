use Rattle.std.specs.Prelude.{◌≡◌, map, take}
use Rattle.dtx_base.specs.Leading.{naming_to}
use Rattle.dtx_table.proofs.marks.names_to.Given as goal

abbrev pub invariant-loop-member : goal.invariant-loop-member
invariant-loop-member l = l.named.items ≡ map (naming_to l.inc l.attempt) (take l.member-index l.members)
