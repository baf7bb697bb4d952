use Rattle.std.proofs.Common.{ℕ, ◌<◌}
use Rattle.client_core.specs.Clients.{PlanFits}
use Rattle.world_base.specs.Events.{client_plan}
use Rattle.world_list.specs.RunLists.{rules_of}
use Rattle.world_check.proofs.starts.plans_fit.Given as goal

-- what the clients so far have to do can be done
abbrev pub invariant-loop-number : goal.invariant-loop-number
invariant-loop-number l = (k : ℕ) → k < l.number → PlanFits (client_plan (rules_of l.events) k)
