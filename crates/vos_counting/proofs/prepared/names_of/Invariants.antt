use Rattle.std.proofs.Common.{drop}
use Rattle.std.specs.HashSet.{contains}
use Rattle.vos_counting.specs.Counting.{same_entry_name}
use Rattle.vos_counting.proofs.Names.{NamesSoFar}
use Rattle.vos_counting.proofs.prepared.names_of.Given as goal

abbrev pub invariant-loop-row : goal.invariant-loop-row
invariant-loop-row l = NamesSoFar (λ k. contains same_entry_name l.names k) (drop l.row-index l.rows) l.rows
