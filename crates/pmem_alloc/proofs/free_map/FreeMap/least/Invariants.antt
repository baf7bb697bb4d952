use Rattle.std.proofs.Common.{◌≡◌, ◌<◌, ℕ, false}
use Rattle.pmem_alloc.specs.Map.{free_in}
use Rattle.pmem_alloc.proofs.free_map.FreeMap.least.Given as goal

abbrev pub invariant-loop-block : goal.invariant-loop-block
invariant-loop-block l = (q : ℕ) → q < l.block → free_in l.self.end l.self.bytes q ≡ false
