use Rattle.std.proofs.Common.{◌≡◌, take}
use Rattle.replay_base.proofs.memories.copy_parked.Given as goal

abbrev pub invariant-loop-fetch : goal.invariant-loop-fetch
invariant-loop-fetch l = l.copy.items ≡ take l.fetch-index l.parked
