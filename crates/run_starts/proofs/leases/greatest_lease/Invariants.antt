use Rattle.run_starts.proofs.Greatest.{IsGreatestSoFar}
use Rattle.run_starts.proofs.leases.greatest_lease.Given as goal

-- the greatest lease so far
abbrev pub invariant-loop-t : goal.invariant-loop-t
invariant-loop-t g l = IsGreatestSoFar g.S.Store.durable g.S.Store.state l.stores l.t l.greatest
