use Rattle.std.proofs.Common.{drop, take}
use Rattle.replay_base.specs.Onward.{Iff}
use Rattle.world_list.specs.Fitting.{AreInPlace}
use Rattle.world_list.specs.RunLists.{IsRunFrom, last_world, rules_of}
use Rattle.world_check.proofs.check.goes_on.Given as goal

-- the list is a run exactly where the rest of it is one from here on
abbrev pub invariant-loop-i : goal.invariant-loop-i
invariant-loop-i l = record {
  places : AreInPlace (rules_of l.events) (last_world l.events.start (take l.i l.events.list));
  rest : Iff (IsRunFrom (rules_of l.events) l.events.start l.events.list) (IsRunFrom (rules_of l.events) (last_world l.events.start (take l.i l.events.list)) (drop l.i l.events.list));
}
