use Rattle.std.specs.Prelude.{◌≡◌, ◌++◌, map, take}
use Rattle.dtx_base.specs.Leading.{abort_to}
use Rattle.dtx_table.proofs.posts.push_aborts.Given as goal

abbrev pub invariant-loop-member : goal.invariant-loop-member
invariant-loop-member l = l.posts ≡ l.initial.posts ++ map (abort_to l.incarnation l.attempt) (take l.member-index l.members)
