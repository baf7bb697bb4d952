-- What is written over fixed places is what is read of them.
use Rattle.std.specs.Prelude.{◌≡◌, ◌≤◌, ◌<◌, ℕ, ◌+◌, ◌*◌, true, false, [], Option, Some, None, Ok, get_or, length, set}
use Rattle.std.specs.List.{list_any}
use Rattle.base_outside.specs.Images.{Image, Range, over}
use Rattle.base_types.specs.declared.snapshot.Snap.{Snap}
use Rattle.daos_model.specs.declared.durable.ContRow.{ContRow}
use Rattle.daos_model.specs.Durables.{is_row_of, is_snap_at}
use Rattle.vos_image.specs.Content.{content_of}
use Rattle.vos_image.specs.Laws.{root_blocks}
use Rattle.vos_image.specs.Places.{Header, read_map, read_places}
use Rattle.vos_places.specs.declared.codec.Counters.{Counters}
use Rattle.vos_places.specs.Codec.{AreCounters, IsContUnder, IsSnap, cont_bytes, counter_bytes, snap_bytes, unused_bytes, with_counters}
use Rattle.vos_places.specs.Tables.{AreNewConts, AreNewSnaps, AreRoots, Table, TableStands, places_of, those}

-- the fixed places of an image hold this
abbrev pub Keeps : ℕ → ℕ → Image → Table → Type 0
Keeps target size f t = TableStands target (content_of size f) t

-- as far as the fixed places reach, below the log, an image is another one with a range written over it
abbrev pub IsWritten : Range → Image → Image → Type 0
IsWritten r f g = (i : ℕ) → i < 36864 → g i ≡ over r f i

-- beyond them the map of blocks is right, and has both roots as taken
pub record IsRightBeyond (size : ℕ) (g : Image) (h : Header) : Type 0 where
  pub map : read_map (content_of size g) 0 16384 [] ≡ Ok (tt, [])
  pub roots : AreRoots (content_of size g) h.objects h.entries

-- the greatest epoch that the lease covers
abbrev pub covered_by : Header → ℕ
covered_by h = h.lease * 256 + 255

-- where a container, a snapshot, a snapshot's place that is given up, and the counters are written
abbrev pub cont_range : ℕ → ContRow → Range
cont_range i r = record { place = 4096 + 64 * i; bytes = cont_bytes r }

abbrev pub snap_range : ℕ → Snap → Range
snap_range i s = record { place = 20480 + 32 * i; bytes = snap_bytes s }

abbrev pub unused_range : ℕ → Range
unused_range i = record { place = 20480 + 32 * i; bytes = unused_bytes }

abbrev pub counter_range : Counters → Range
counter_range n = record { place = 24; bytes = counter_bytes n }

-- what changes of a table
abbrev pub with_cont : ℕ → ContRow → Table → Table
with_cont i r t = record t { conts = set t.conts i (Some r) }

abbrev pub with_snap : ℕ → Option Snap → Table → Table
with_snap i o t = record t { snaps = set t.snaps i o }

abbrev pub counted : Counters → Table → Table
counted n t = record t { header = with_counters n t.header }

-- no container is twice in it, and no snapshot, and each is of a container in it
abbrev pub IsApart : Table → Type 0
IsApart t = AreNewConts [] (those t.conts) × AreNewSnaps (those t.conts) [] (those t.snaps)

-- what places hold is read of them
abbrev pub TablesAreRead : Type 0
TablesAreRead = (target size : ℕ) (f : Image) (t : Table) → Keeps target size f t → read_places target (content_of size f) [] ≡ Ok (places_of t, root_blocks t.header)

-- a container is written to a place
abbrev pub ContsAreWritten : Type 0
ContsAreWritten = (target size : ℕ) (f g : Image) (t : Table) (i : ℕ) (r : ContRow) → Keeps target size f t → i < 256 → IsContUnder (covered_by t.header) r → IsApart (with_cont i r t)
    → IsWritten (cont_range i r) f g → IsRightBeyond size g t.header → Keeps target size g (with_cont i r t)

-- a snapshot is written to a place
abbrev pub SnapsAreWritten : Type 0
SnapsAreWritten = (target size : ℕ) (f g : Image) (t : Table) (i : ℕ) (s : Snap) → Keeps target size f t → i < 256 → IsSnap s → IsApart (with_snap i (Some s) t)
    → IsWritten (snap_range i s) f g → IsRightBeyond size g t.header → Keeps target size g (with_snap i (Some s) t)

-- the place of a snapshot is given up
abbrev pub SnapsAreGivenUp : Type 0
SnapsAreGivenUp = (target size : ℕ) (f g : Image) (t : Table) (i : ℕ) → Keeps target size f t → i < 256 → IsApart (with_snap i None t)
    → IsWritten (unused_range i) f g → IsRightBeyond size g t.header → Keeps target size g (with_snap i None t)

-- counters are written, with a lease that isn't below the one before
abbrev pub CountersAreWritten : Type 0
CountersAreWritten = (target size : ℕ) (f g : Image) (t : Table) (n : Counters) → Keeps target size f t → AreCounters n → t.header.lease ≤ n.lease
    → IsWritten (counter_range n) f g → IsRightBeyond size g (with_counters n t.header) → Keeps target size g (counted n t)

-- what is written beyond the fixed places changes nothing in them
abbrev pub PlacesStay : Type 0
PlacesStay = (target size : ℕ) (f g : Image) (t : Table) → Keeps target size f t → ((i : ℕ) → i < 36864 → g i ≡ f i) → IsRightBeyond size g t.header → Keeps target size g t

-- and beyond them all is right where nothing is written there
abbrev pub BeyondStays : Type 0
BeyondStays = (target size : ℕ) (f g : Image) (t : Table) → Keeps target size f t → ((i : ℕ) → 307200 ≤ i → g i ≡ f i) → IsRightBeyond size g t.header

-- ---- no container and no snapshot twice, after a change

-- a container's row changes in its place
abbrev pub RowsChange : Type 0
RowsChange = (t : Table) (i : ℕ) (old r : ContRow) → IsApart t → get_or t.conts i None ≡ Some old → r.cont ≡ old.cont → IsApart (with_cont i r t)

-- a new container comes to an unused place
abbrev pub RowsCome : Type 0
RowsCome = (t : Table) (i : ℕ) (r : ContRow) → IsApart t → i < length t.conts → get_or t.conts i None ≡ None → list_any (is_row_of r.cont) (those t.conts) ≡ false → IsApart (with_cont i r t)

-- a new snapshot of a container in the table comes to an unused place
abbrev pub SnapsCome : Type 0
SnapsCome = (t : Table) (i : ℕ) (s : Snap) → IsApart t → i < length t.snaps → get_or t.snaps i None ≡ None → list_any (is_row_of s.cont) (those t.conts) ≡ true → list_any (is_snap_at s.cont s.epoch) (those t.snaps) ≡ false → IsApart (with_snap i (Some s) t)

-- a snapshot changes in its place, and one goes
abbrev pub SnapsChange : Type 0
SnapsChange = (t : Table) (i : ℕ) (old s : Snap) → IsApart t → get_or t.snaps i None ≡ Some old → s.cont ≡ old.cont → s.epoch ≡ old.epoch → IsApart (with_snap i (Some s) t)

abbrev pub SnapsGo : Type 0
SnapsGo = (t : Table) (i : ℕ) → IsApart t → IsApart (with_snap i None t)
