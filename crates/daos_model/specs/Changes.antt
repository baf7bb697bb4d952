-- What each change makes of what a target keeps. All else stays.
use Rattle.std.specs.Prelude.{ℕ, ◌+◌, ◌^◌, Bool, true, false, ◌&&◌, ◌==◌, not, bit_or, nat_lt, nat_le, filter, map, List, [], ◌∷◌, if◌then◌else◌}
use Rattle.std.specs.List.{list_any}
use Rattle.base_types.specs.declared.entry.Entry.{Entry}
use Rattle.base_types.specs.declared.entry.Settle.{Settle}
use Rattle.base_types.specs.declared.entry.Settle.TheVariants.{Commit, Abort, Confirm, Forget}
use Rattle.base_types.specs.declared.epoch.Epoch.{Epoch}
use Rattle.base_types.specs.declared.id.AttemptId.{AttemptId}
use Rattle.base_types.specs.declared.id.ContId.{ContId}
use Rattle.base_types.specs.declared.operation.MinorWrite.{MinorWrite}
use Rattle.base_types.specs.declared.outcome.FloorWhy.{FloorWhy}
use Rattle.base_types.specs.declared.outcome.FloorWhy.TheVariants.{Snapshot, Aggregate}
use Rattle.base_types.specs.declared.snapshot.Snap.{Snap}
use Rattle.daos_model.specs.declared.durable.ContRow.{ContRow}
use Rattle.daos_model.specs.declared.durable.Durable.{Durable}
use Rattle.daos_model.specs.declared.durable.Version.{Version}
use Rattle.daos_model.specs.Durables.{cont_key, entry_key, is_frozen, is_row_of, is_snap_at, new_row, same_attempt, snap_key, version_key}
use Rattle.daos_model.specs.Ordered.{put, puts}
use Rattle.daos_model.specs.Prunes.{is_staying}
use Rattle.daos_model.specs.Versions.{done_by, is_not_pending, version_path, versions_of}

-- an entry and its writes, which aren't settled
unfoldable pub prepared : Entry → List MinorWrite → Durable → Durable
prepared e ws d = record d { versions = puts version_key (versions_of e ws) d.versions; entries = put entry_key e d.entries }

abbrev pub is_other : AttemptId → Entry → Bool
is_other a e = not (same_attempt e.attempt a)

abbrev pub committed_at : AttemptId → Entry → Entry
committed_at a e = if same_attempt e.attempt a then record e { committed = true } else e

-- with one more confirmed member
abbrev pub confirmed_at : AttemptId → ℕ → Entry → Entry
confirmed_at a t e = if same_attempt e.attempt a then record e { confirmed = bit_or e.confirmed (2 ^ t) } else e

-- a step of an attempt: its versions are done and its entry committed; these versions and the entry go; one more
-- member confirmed; the entry goes, and done versions stay
unfoldable pub settled : AttemptId → Settle → Durable → Durable
settled a Commit d = record d { versions = map (done_by a) d.versions; entries = map (committed_at a) d.entries }
settled a Abort d = record d { versions = filter (is_not_pending a) d.versions; entries = filter (is_other a) d.entries }
settled a (Confirm t) d = record d { entries = map (confirmed_at a t) d.entries }
settled a Forget d = record d { entries = filter (is_other a) d.entries }

unfoldable pub leased : ℕ → Durable → Durable
leased ticks d = record d { lease = ticks }

-- a container more, unless it is there
abbrev pub with_cont : ContId → List ContRow → List ContRow
with_cont c rows = if list_any (is_row_of c) rows then rows else put cont_key (new_row c) rows

abbrev pub with_conts : List ContId → List ContRow → List ContRow
with_conts [] rows = rows
with_conts (c ∷ cs) rows = with_conts cs (with_cont c rows)

unfoldable pub enlisted : List ContId → Durable → Durable
enlisted cs d = record d { conts = with_conts cs d.conts }

-- a floor that goes up, where the epoch is above it; at the floor it keeps its reason
abbrev pub raised : Epoch → FloorWhy → ContRow → ContRow
raised e why r = if nat_lt r.floor.0 e.0 then record r { floor = e; why = why } else r

abbrev pub raised_at : ContId → Epoch → FloorWhy → ContRow → ContRow
raised_at c e why r = if is_row_of c r then raised e why r else r

abbrev pub new_snap : ContId → Epoch → Snap
new_snap c s = record { cont = c; epoch = s; created = false }

-- a snapshot is frozen: it is stored, and the floor raised to it; one that is frozen already changes nothing
unfoldable pub frozen : ContId → Epoch → Durable → Durable
frozen c s d =
    if is_frozen d c s then d
    else record d { conts = map (raised_at c s (Snapshot s)) d.conts; snaps = put snap_key (new_snap c s) d.snaps }

abbrev pub created_at : ContId → Epoch → Snap → Snap
created_at c s x = if is_snap_at c s x then record x { created = true } else x

unfoldable pub created : ContId → Epoch → Durable → Durable
created c s d = record d { snaps = map (created_at c s) d.snaps }

abbrev pub is_other_snap : ContId → Epoch → Snap → Bool
is_other_snap c s x = not (is_snap_at c s x)

-- a snapshot is dropped
unfoldable pub thawed : ContId → Epoch → Durable → Durable
thawed c s d = record d { snaps = filter (is_other_snap c s) d.snaps }

-- an aggregated-to epoch that goes up, and the floor with it
abbrev pub aggregated_to : Epoch → ℕ → ContRow → ContRow
aggregated_to upto n r = if nat_lt r.aggregated.0 upto.0 then record r { aggregated = upto; number = n } else r

abbrev pub marked_at : ContId → Epoch → ℕ → ContRow → ContRow
marked_at c upto n r = if is_row_of c r then raised upto (Aggregate n) (aggregated_to upto n r) else r

-- the first step of a prune, in which no version goes
unfoldable pub marked : ContId → Epoch → ℕ → Durable → Durable
marked c upto n d = record d { conts = map (marked_at c upto n) d.conts }

unfoldable pub with_versions : List Version → Durable → Durable
with_versions vs d = record d { versions = vs }

-- aggregation up to an epoch: the versions that neither a snapshot nor a read above sees go
unfoldable pub pruned : ContId → Epoch → ℕ → Durable → Durable
pruned c upto n d = with_versions (filter (is_staying c upto d) d.versions) (marked c upto n d)

-- a version of a container whose epoch lies in a range
unfoldable pub is_in_range : ContId → Epoch → Epoch → Version → Bool
is_in_range c lo hi v = ((version_path v).cont.0 == c.0) && nat_le lo.0 v.epoch.0 && nat_le v.epoch.0 hi.0

abbrev pub is_out_of_range : ContId → Epoch → Epoch → Version → Bool
is_out_of_range c lo hi v = not (is_in_range c lo hi v)

unfoldable pub discarded : ContId → Epoch → Epoch → Durable → Durable
discarded c lo hi d = with_versions (filter (is_out_of_range c lo hi) d.versions) d

-- opened again
unfoldable pub reopened : Durable → Durable
reopened d = record d { incarnation = d.incarnation + 1 }
