use Rattle.std.proofs.Common.{ℕ, ◌≡◌, ◌<◌, Some, slice_get}
use Rattle.client_core.specs.Clients.{IsInPlace}
use Rattle.world_base.specs.declared.client.ClientState.{ClientState}
use Rattle.world_base.specs.Events.{client_plan}
use Rattle.world_list.specs.RunLists.{rules_of}
use Rattle.world_check.proofs.starts.are_in_place.Given as goal

-- the clients so far have come as far as their numbers say
abbrev pub invariant-loop-number : goal.invariant-loop-number
invariant-loop-number l = (k : ℕ) (c : ClientState) → k < l.number → slice_get l.events.start.clients k ≡ Some c → IsInPlace (client_plan (rules_of l.events) k) c
