use Rattle.std.proofs.Common.{◌≡◌, map}
use Rattle.world_base.specs.Events.{with_epoch}
use Rattle.world_list.proofs.follow.lines_of.Given as goal

-- the lines so far were added
abbrev pub invariant-loop-line : goal.invariant-loop-line
invariant-loop-line l = l.added.items ≡ map (with_epoch l.issued) l.yielded
