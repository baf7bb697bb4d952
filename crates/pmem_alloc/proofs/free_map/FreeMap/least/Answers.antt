use Rattle.std.proofs.Common.{arith, ap}
use Rattle.pmem_alloc.specs.Map.{MapState, free_of}
use Rattle.pmem_alloc.proofs.Counting.{count_none}
use Rattle.pmem_alloc.proofs.free_map.FreeMap.least.Goals as goal

pub unreachable-requires : goal.unreachable-requires
unreachable-requires c =
    let end = ap (λ (m : MapState). m.end) c.self.view_is in
    let passed = c.loop-block-test.false in
    let none = count_none (free_of c.args.self.now) c.args.self.now.end (λ q below. c.loop-block.invariant q (omega arith)) in
    omega (arith, none, c.requires)
