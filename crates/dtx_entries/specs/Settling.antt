-- What a step of an attempt makes of entries.
use Rattle.std.specs.Prelude.{◌<◌, ◌^◌, true, bit_or, find, filter, map, List, Option, if◌then◌else◌}
use Rattle.base_types.specs.declared.entry.Entry.{Entry}
use Rattle.base_types.specs.declared.entry.Settle.{Settle}
use Rattle.base_types.specs.declared.entry.Settle.TheVariants.{Commit, Abort, Confirm, Forget}
use Rattle.base_types.specs.declared.id.AttemptId.{AttemptId}
use Rattle.daos_model.specs.Changes.{committed_at, confirmed_at, is_other}
use Rattle.daos_model.specs.Durables.{is_entry_of, same_attempt}

-- a member that confirms is one of at most 64 targets
abbrev pub IsStep : Settle → Type 0
IsStep Commit = Unit {0}
IsStep Abort = Unit {0}
IsStep (Confirm t) = t < 64
IsStep Forget = Unit {0}

-- the entry of an attempt
abbrev pub entry_in : List Entry → AttemptId → Option Entry
entry_in es a = find (is_entry_of a) es

-- a step of an attempt: its entry is committed; it goes; one more member has confirmed it
unfoldable pub entries_settled : AttemptId → Settle → List Entry → List Entry
entries_settled a Commit es = map (committed_at a) es
entries_settled a Abort es = filter (is_other a) es
entries_settled a (Confirm t) es = map (confirmed_at a t) es
entries_settled a Forget es = filter (is_other a) es

-- what a step makes of the entry of its attempt, where this stays
abbrev pub changed : Settle → Entry → Entry
changed Commit e = record e { committed = true }
changed Abort e = e
changed (Confirm t) e = record e { confirmed = bit_or e.confirmed (2 ^ t) }
changed Forget e = e

-- the entry of an attempt changes, and others stay
abbrev pub changed_at : AttemptId → Settle → Entry → Entry
changed_at a s e = if same_attempt e.attempt a then changed s e else e
