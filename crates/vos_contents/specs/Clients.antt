-- Entries in a table for each client.
use Rattle.std.specs.Prelude.{ℕ, ◌+◌, Bool, true, false, ◌&&◌, ◌==◌, List, [], ◌∷◌, ◌++◌}
use Rattle.std.specs.List.{list_all, slice_index_or}
use Rattle.base_types.specs.declared.entry.Entry.{Entry}
use Rattle.dtx_entries.specs.Tables as table

-- the entries of tables, one table after another
abbrev pub entries_in : List table.Kept → List Entry
entries_in [] = []
entries_in (t ∷ ts) = t.items ++ entries_in ts

abbrev pub is_of_client : ℕ → Entry → Bool
is_of_client n e = e.attempt.client == n

-- the first table has entries of this client alone, and each further one of the client after that of the one before it
abbrev pub are_by_client : ℕ → List table.Kept → Bool
are_by_client n [] = true
are_by_client n (t ∷ ts) = list_all (is_of_client n) t.items && are_by_client (n + 1) ts

abbrev pub has_room : table.Kept → Bool
has_room t = t.room

-- all entries, and for which clients there is room for one more
pub record Kept : Type 0 where
  pub items : List Entry
  pub rooms : List Bool

-- whether there is room for one more of a client
abbrev pub has_room_for : ℕ → Kept → Bool
has_room_for n k = slice_index_or k.rooms n false
