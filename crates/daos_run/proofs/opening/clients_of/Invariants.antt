use Rattle.daos_run.proofs.Firsts.{AreSoFar}
use Rattle.daos_run.proofs.opening.clients_of.Given as goal

-- the clients so far
abbrev pub invariant-loop-number : goal.invariant-loop-number
invariant-loop-number l = AreSoFar l.script l.held l.attempts l.tracker l.clients.items l.number
