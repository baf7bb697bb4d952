-- What is gathered of entries.
use Rattle.std.specs.Prelude.{ℕ, length}
use Rattle.base_types.specs.declared.id.AttemptId.{AttemptId}
use Rattle.vos_values.specs.declared.values.EntryMark.{EntryMark}
use Rattle.vos_entries.specs.Entries.{Stored}
use Rattle.vos_check_entries.specs.declared.entry.EntryRow.{EntryRow}

abbrev pub entry_row : Stored → EntryRow
entry_row s = record { entry = s.entry; listed = length s.nodes }

-- of what its key and its value say, where it lists so many nodes
abbrev pub row_with : AttemptId → EntryMark → ℕ → EntryRow
row_with a m n = record {
  entry = record { attempt = a; epoch = m.epoch; leader = m.leader; members = m.members; confirmed = m.confirmed; committed = m.committed };
  listed = n;
}
