use Rattle.std.specs.Prelude.{◌≡◌, map, take}
use Rattle.dtx_base.specs.Leading.{prepare_to}
use Rattle.dtx_table.proofs.posts.prepares.Given as goal

abbrev pub invariant-loop-member : goal.invariant-loop-member
invariant-loop-member l = l.posts ≡ map (prepare_to l.asking.targets l.asking.incarnation l.asking.entry l.asking.first l.writes) (take l.member-index l.members)
