use Rattle.std.proofs.Common.{◌≡◌, ◌-◌, length, true}
use Rattle.vos_contents.specs.Clients.{are_by_client, entries_in}
use Rattle.vos_contents.proofs.client_tables.add_tables.Given as goal

abbrev pub invariant-loop-alloc : goal.invariant-loop-alloc
invariant-loop-alloc l = record {
  items : entries_in l.tables.items ≡ entries_in l.initial.tables.items;
  clients : are_by_client 0 l.tables.items ≡ true;
}

abbrev pub decreases-loop-alloc : goal.decreases-loop-alloc
decreases-loop-alloc l = l.count - length l.tables.items
