use Rattle.run_starts.proofs.Adding.{AreAddedSoFar}
use Rattle.run_starts.proofs.enlisting.enlist_all.Given as goal

-- the stores of the targets so far have got the containers
abbrev pub invariant-loop-t : goal.invariant-loop-t
invariant-loop-t g l = AreAddedSoFar g.S.Store.durable g.S.Store.state l.conts l.t l.fn.stores l.stores
