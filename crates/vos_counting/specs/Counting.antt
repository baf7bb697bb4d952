-- Entries and attempts by the numbers that name them.
use Rattle.std.specs.Prelude.{◌≡◌, ◌≤◌, ℕ, Bool, ◌==◌, ◌&&◌, not, List, Option, Some, None, filter, length, map}
use Rattle.std.specs.List.{list_any}
use Rattle.std.specs.HashSet.{HashSet, contains}
use Rattle.base_types.specs.declared.entry.Entry.{Entry}
use Rattle.base_types.specs.declared.epoch.Epoch.{Epoch}
use Rattle.base_types.specs.declared.id.AttemptId.{AttemptId}
use Rattle.daos_model.specs.declared.durable.Version.{Version}
use Rattle.daos_model.specs.Versions.{is_pending}
use Rattle.vos_check_entries.specs.declared.entry.EntryRow.{EntryRow}

-- the entry of a row
abbrev pub entry_in : EntryRow → Entry
entry_in r = r.entry

abbrev pub entries_of : List EntryRow → List Entry
entries_of rows = map entry_in rows

-- ---- names

-- client and command, attempt and epoch
abbrev pub EntryName : Type 0
EntryName = (ℕ × ℕ) × (ℕ × ℕ)

abbrev pub entry_name : AttemptId → Epoch → EntryName
entry_name a e = ((a.client, a.command), (a.attempt, e.0))

abbrev pub version_name : Version → EntryName
version_name v = entry_name v.by v.epoch

abbrev pub same_entry_name : EntryName → EntryName → Bool
same_entry_name a b = ((a.0.0 == b.0.0) && (a.0.1 == b.0.1)) && ((a.1.0 == b.1.0) && (a.1.1 == b.1.1))

-- client and command, and the attempt
abbrev pub AttemptName : Type 0
AttemptName = (ℕ × ℕ) × ℕ

abbrev pub attempt_name : AttemptId → AttemptName
attempt_name a = ((a.client, a.command), a.attempt)

abbrev pub same_attempt_name : AttemptName → AttemptName → Bool
same_attempt_name a b = ((a.0.0 == b.0.0) && (a.0.1 == b.0.1)) && (a.1 == b.1)

-- ---- prepared entries

-- a prepared entry has this name
abbrev pub is_prepared_as : EntryName → Entry → Bool
is_prepared_as k e = not e.committed && same_entry_name k (entry_name e.attempt e.epoch)

-- a set has the names of those among these entries that are prepared, and no others
abbrev pub HasPrepared : {H : Type 0} → HashSet EntryName H → List Entry → Type 0
HasPrepared names es = (k : EntryName) → contains same_entry_name names k ≡ list_any (is_prepared_as k) es

-- ---- unsettled versions

-- a count that may not be there
abbrev pub or_none : Option ℕ → ℕ
or_none None = 0
or_none (Some n) = n

-- so many versions of one attempt can be settled by one commit
abbrev pub most_waiting : ℕ
most_waiting = 64

-- of no attempt more are unsettled
abbrev pub FewWait : List Version → Type 0
FewWait vs = (a : AttemptId) → length (filter (is_pending a) vs) ≤ most_waiting
