use Rattle.std.proofs.Common.{drop}
use Rattle.std.specs.HashSet.{contains}
use Rattle.vos_check_entries.specs.Nodes.{same_node_name}
use Rattle.vos_check_entries.proofs.Names.{NamesSoFar}
use Rattle.vos_check_entries.proofs.nodes.names_of.Given as goal

abbrev pub invariant-loop-row : goal.invariant-loop-row
invariant-loop-row l = NamesSoFar (λ k. contains same_node_name l.names k) (drop l.row-index l.rows) l.rows
