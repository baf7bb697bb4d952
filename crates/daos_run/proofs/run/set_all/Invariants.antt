use Rattle.std.specs.Prelude.{◌≡◌}
use Rattle.daos_run.proofs.Slots.{AreSetSoFar, GivesAsFirst}
use Rattle.daos_run.specs.Starts.{IsNewStore}
use Rattle.daos_run.proofs.run.set_all.Given as goal

-- so many targets have their stores and the clocks that the rack hands out for them; for the others it hands out what it did at first; and no call
-- of the rack raised its count
abbrev pub invariant-loop-t : goal.invariant-loop-t
invariant-loop-t g l = AreSetSoFar (λ t store clock. IsNewStore l.job.size_mib store × g.B.Rack.gives l.initial.rack t clock) l.job.targets l.t l.parts
    × GivesAsFirst l.t (g.B.Rack.gives l.initial.rack) (g.B.Rack.gives l.rack) × (g.B.Rack.count l.rack ≡ g.B.Rack.count l.initial.rack)
