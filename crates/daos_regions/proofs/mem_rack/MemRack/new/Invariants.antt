use Rattle.std.proofs.Common.{◌≡◌, Some, replicate, [], false}
use Rattle.daos_regions.specs.MemState.{MemState}
use Rattle.daos_regions.specs.declared.keep.Keep.TheVariants.{All}
use Rattle.daos_regions.proofs.mem_rack.MemRack.new.Given as goal

-- each region so far is at home and all zero
abbrev pub invariant-loop-target : goal.invariant-loop-target
invariant-loop-target l =
    let region : MemState = record { disk = record { size = l.size; past = []; unflushed = [] }; keep = All; broken = false; calls = record { fails = []; calls = 0; faults = 0 } } in
    l.regions.items ≡ replicate l._target (Some region)
