use Rattle.std.proofs.Common.{◌≡◌, ◌+◌, drop, length}
use Rattle.vos_contents.specs.Clients.{entries_in}
use Rattle.vos_contents.proofs.client_tables.count_of.Given as goal

abbrev pub invariant-loop-table : goal.invariant-loop-table
invariant-loop-table l = l.count + length (entries_in (drop l.table-index l.tables)) ≡ length (entries_in l.tables)
