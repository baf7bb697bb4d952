use Rattle.run_opening.proofs.Walks.{ReadSoFar}
use Rattle.run_opening.proofs.opening.read_all.Given as goal

-- the entries of the targets so far are read
abbrev pub invariant-loop-t : goal.invariant-loop-t
invariant-loop-t g l = ReadSoFar g.S.Store.durable g.S.Store.state l.t l.all.items l.fn.stores l.stores
