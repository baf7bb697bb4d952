use Rattle.std.proofs.Common.{◌≡◌, ◌++◌, drop}
use Rattle.vos_contents.specs.Clients.{entries_in}
use Rattle.vos_contents.proofs.client_tables.add_rows.Given as goal

abbrev pub invariant-loop-table : goal.invariant-loop-table
invariant-loop-table l = l.rows.items ++ entries_in (drop l.table-index l.tables) ≡ l.initial.rows.items ++ entries_in l.tables
