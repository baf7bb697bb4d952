use Rattle.std.proofs.Common.{All, take}
use Rattle.client_core.specs.Clients.{OpFits}
use Rattle.world_check.proofs.starts.ops_fit.Given as goal

abbrev pub invariant-loop-op : goal.invariant-loop-op
invariant-loop-op l = All (OpFits l.targets) (take l.op-index l.ops)
