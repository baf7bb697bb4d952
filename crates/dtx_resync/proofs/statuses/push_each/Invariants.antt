use Rattle.std.specs.Prelude.{◌≡◌, ◌++◌, map, take}
use Rattle.world_base.specs.Statuses.{status_to}
use Rattle.dtx_resync.proofs.statuses.push_each.Given as goal

abbrev pub invariant-loop-member : goal.invariant-loop-member
invariant-loop-member l = l.posts ≡ l.initial.posts ++ map (status_to l.inc l.attempt) (take l.member-index l.members)
