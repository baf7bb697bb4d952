use Rattle.std.proofs.Common.{◌≡◌}
use Rattle.pmem_alloc.specs.Sets.{count_below}
use Rattle.pmem_alloc.specs.Map.{free_in}
use Rattle.pmem_alloc.proofs.free_map.count_free.Given as goal

abbrev pub invariant-loop-block : goal.invariant-loop-block
invariant-loop-block l = l.count ≡ count_below (free_in l.end l.bytes) l.block
