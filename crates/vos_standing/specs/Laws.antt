-- What stands stays where blocks or fixed places change, as statements.
use Rattle.std.specs.Prelude.{◌≡◌, ◌≤◌, ◌<◌, ℕ, Bool, false, List, Result, Some, None, is_ok}
use Rattle.base_outside.specs.Images.{Image, Range, all_over, over}
use Rattle.base_types.specs.declared.snapshot.Snap.{Snap}
use Rattle.daos_model.specs.declared.durable.ContRow.{ContRow}
use Rattle.pmem_alloc.specs.Map.{MapState, shown_in}
use Rattle.pmem_pages.specs.Owners.{Changed, Holds, Owner}
use Rattle.daos_model.specs.declared.durable.Durable.{Durable}
use Rattle.pmem_undo.specs.Layout.{SameContent, gate}
use Rattle.vos_commits.specs.Kept.{IsCommit, IsQuiet, MayFind, content_of as bytes_of, kept_in}
use Rattle.vos_store.specs.Calls.{Makes}
use Rattle.vos_store.specs.Refusals.{refuses}
use Rattle.vos_places.specs.vos_image.Content.{Content, shown}
use Rattle.vos_places.specs.vos_image.Fits.{AllFit}
use Rattle.vos_places.specs.vos_image.Kept.{Stored, durable_of, kept, stored_owner}
use Rattle.vos_places.specs.vos_image.Laws.{Stands}
use Rattle.vos_levels.specs.Levels.{hung_root}
use Rattle.vos_places.specs.declared.codec.Counters.{Counters}
use Rattle.vos_places.specs.Codec.{AreCounters, IsContUnder, IsSnap}
use Rattle.vos_places.specs.Laws.{IsApart, cont_range, counted, counter_range, covered_by, snap_range, unused_range, with_cont, with_snap}
use Rattle.vos_places.specs.Tables.{Table, places_of}
use Rattle.vos_standing.specs.Standing.{AllowsMore, IsReadOf, Stand, StaysBeside, content}

-- ---- what stands is what is kept

abbrev pub WhatStandsStands : Type 0
WhatStandsStands = (target size : ℕ) (f : Image) (t : Table) (x : Stored) → Stand target size f t x → Stands target size (bytes_of f) (places_of t) x

abbrev pub WhatStandsIsKept : Type 0
WhatStandsIsKept = (target size : ℕ) (f : Image) (t : Table) (x : Stored) → Stand target size f t x → kept target size (bytes_of f) ≡ durable_of (record { places = places_of t; stored = x })

-- ---- blocks

-- what stands in the blocks of a content stands in those that are shown to whoever changes them
abbrev pub BlocksAreShown : {G : Type 0} → Owner G → Type 0
BlocksAreShown {G} O = (size : ℕ) (f : Image) (m : MapState) (x : G) → IsReadOf size f m → Holds O (shown (content size f)) x → Holds O (shown_in m f) x

-- whoever changes them changes those of the content so, and leaves what stands beside them
abbrev pub BlocksChange : {G : Type 0} → Owner G → Type 0
BlocksChange {G} O =
    (size : ℕ) (f g : Image) (m n : MapState) (x y : G) → IsReadOf size f m → IsReadOf size g n → n.end ≡ m.end → Holds O (shown (content size f)) x
    → Changed O (shown_in m f) x (shown_in n g) y → Changed O (shown (content size f)) x (shown (content size g)) y × StaysBeside m f n g

-- ---- what stands after a change

-- Blocks changed, and the counters were written with the roots of what stands there now, under a lease that isn't below the one before.
abbrev pub StandsAfterBlocks : Type 0
StandsAfterBlocks =
    (target size : ℕ) (f g h : Image) (m n : MapState) (t : Table) (x y : Stored) (c : Counters) → Stand target size f t x → IsReadOf size f m → IsReadOf size g n → StaysBeside m f n g
    → Holds stored_owner (shown (content size g)) y → h ≡ over (counter_range c) g → AreCounters c → t.header.lease ≤ c.lease → c.objects ≡ hung_root y.0 → c.entries ≡ hung_root y.1
    → AllFit (content size h) y.0 y.1 → Stand target size h (counted c t) y

-- Blocks changed below the same roots.
abbrev pub StandsBelowTheRoots : Type 0
StandsBelowTheRoots =
    (target size : ℕ) (f g : Image) (m n : MapState) (t : Table) (x y : Stored) → Stand target size f t x → IsReadOf size f m → IsReadOf size g n → StaysBeside m f n g
    → Holds stored_owner (shown (content size g)) y → t.header.objects ≡ hung_root y.0 → t.header.entries ≡ hung_root y.1
    → AllFit (content size g) y.0 y.1 → Stand target size g t y

-- The counters were written, with the same roots.
abbrev pub StandsAfterCounters : Type 0
StandsAfterCounters =
    (target size : ℕ) (f : Image) (t : Table) (x : Stored) (c : Counters) → Stand target size f t x → AreCounters c → t.header.lease ≤ c.lease → c.objects ≡ t.header.objects → c.entries ≡ t.header.entries
    → Stand target size (over (counter_range c) f) (counted c t) x

-- The place of a container was written.
abbrev pub StandsAfterConts : Type 0
StandsAfterConts =
    (target size : ℕ) (f : Image) (t : Table) (x : Stored) (i : ℕ) (r : ContRow) → Stand target size f t x → i < 256 → IsContUnder (covered_by t.header) r → IsApart (with_cont i r t)
    → Stand target size (over (cont_range i r) f) (with_cont i r t) x

-- The place of a snapshot was written, or given up.
abbrev pub StandsAfterSnaps : Type 0
StandsAfterSnaps =
    (target size : ℕ) (f : Image) (t : Table) (x : Stored) (i : ℕ) (s : Snap) → Stand target size f t x → i < 256 → IsSnap s → IsApart (with_snap i (Some s) t)
    → Stand target size (over (snap_range i s) f) (with_snap i (Some s) t) x

abbrev pub StandsWithoutSnaps : Type 0
StandsWithoutSnaps =
    (target size : ℕ) (f : Image) (t : Table) (x : Stored) (i : ℕ) → Stand target size f t x → i < 256 → IsApart (with_snap i None t)
    → Stand target size (over (unused_range i) f) (with_snap i None t) x

-- What the layout asks of what stands in blocks it asks no more of under a greater lease.
abbrev pub FitsStay : Type 0
FitsStay = (c d : Content) (x : Stored) → AllowsMore c d → AllFit c x.0 x.1 → AllFit d x.0 x.1

-- ---- commits

-- What stands goes by the content alone.
abbrev pub ContentsStand : Type 0
ContentsStand = (target size : ℕ) (f g : Image) (t : Table) (x : Stored) → SameContent g f → Stand target size f t x → Stand target size g t x

-- A region with a closed gate keeps what stands in it.
abbrev pub ClosedItIsKept : Type 0
ClosedItIsKept =
    (target size : ℕ) (f : Image) (t : Table) (x : Stored) → f gate ≡ 0 → Stand target size f t x
    → kept_in (kept target size) size f ≡ durable_of (record { places = places_of t; stored = x })

-- A commit of ranges, with which this stands in place of that, is a change of what is kept, where it is one of what they make.
abbrev pub CommitsChange : Type 1
CommitsChange =
    (T E : Type 0) (stop : E → Bool) (change : Durable → Durable) (result : Result T E) (target size : ℕ) (ranges : List Range) (f g : Image) (old new : Image → Type 0) (t u : Table) (x y : Stored)
    → IsCommit size ranges (is_ok result) f g old new → refuses stop result ≡ false → Stand target size f t x → Stand target size (all_over ranges f) u y
    → durable_of (record { places = places_of u; stored = y }) ≡ change (durable_of (record { places = places_of t; stored = x }))
    → Makes false stop change result (Some (kept_in (kept target size) size f)) (Some (kept_in (kept target size) size g)) (MayFind (kept target size) size old) (MayFind (kept target size) size new)

-- A commit with which what stands makes the same as before is quiet.
abbrev pub SameIsQuiet : Type 0
SameIsQuiet =
    (target size : ℕ) (ranges : List Range) (f : Image) (t u : Table) (x y : Stored) → f gate ≡ 0 → Stand target size f t x → Stand target size (all_over ranges f) u y
    → durable_of (record { places = places_of u; stored = y }) ≡ durable_of (record { places = places_of t; stored = x }) → IsQuiet (kept target size) size ranges f
