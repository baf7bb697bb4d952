-- What a pool remembers of its fixed places.
use Rattle.std.specs.Prelude.{◌≡◌, ◌≤◌, ◌<◌, ℕ, All, true, List, length, replicate, Option, None}
use Rattle.base_types.specs.declared.snapshot.Snap.{Snap}
use Rattle.daos_model.specs.declared.durable.ContRow.{ContRow}
use Rattle.daos_model.specs.Durables.{is_stored_why}
use Rattle.vos_places.specs.vos_image.Places.{Header}
use Rattle.vos_places.specs.declared.codec.Counters.{Counters}
use Rattle.vos_places.specs.Codec.{AreCounters, IsContUnder, IsSnap}
use Rattle.vos_places.specs.Laws.{IsApart, covered_by}
use Rattle.vos_places.specs.Tables.{Table, those}
use Rattle.vos_values.specs.declared.keys.Layout.{Layout}
use Rattle.vos_values.specs.declared.keys.Layout.TheVariants.{One, Two}
use Rattle.vos_tables.specs.declared.identity.Identity.{Identity}

abbrev pub layout_number : Layout → ℕ
layout_number One = 1
layout_number Two = 2

-- what an image says of itself: what never changes, and counters
abbrev pub header_of : Identity → Counters → Header
header_of i n = record { layout = layout_number i.layout; target = i.target; targets = i.targets; incarnation = n.incarnation; lease = n.lease; objects = n.objects; entries = n.entries }

abbrev pub table_of : Identity → Counters → List (Option ContRow) → List (Option Snap) → Table
table_of i n conts snaps = record { header = header_of i n; conts = conts; snaps = snaps }

-- one of which no place is used, in the first incarnation
abbrev pub empty_table : Identity → Table
empty_table i = table_of i (record { incarnation = 1; lease = 0; objects = 0; entries = 0 }) (replicate 256 None) (replicate 256 None)

-- the counters in it
abbrev pub counters_in : Table → Counters
counters_in t = record { incarnation = t.header.incarnation; lease = t.header.lease; objects = t.header.objects; entries = t.header.entries }

-- a table that places can hold: 256 of each, no container and no snapshot twice, each snapshot of a container that is there, and epochs
-- that the lease covers
pub record IsTable (t : Table) : Type 0 where
  pub many_conts : length t.conts ≡ 256
  pub many_snaps : length t.snaps ≡ 256
  pub apart : IsApart t
  pub rows : All (IsContUnder (covered_by t.header)) (those t.conts)
  pub held : All IsSnap (those t.snaps)
  pub counters : AreCounters (counters_in t)

-- of the second layout
abbrev pub raised : Table → Table
raised t = record t { header = record t.header { layout = 2 } }

-- counters that may come after those of a table: the lease doesn't go down
pub record AreNext (t : Table) (n : Counters) : Type 0 where
  pub numbers : AreCounters n
  pub lease : t.header.lease ≤ n.lease

-- a floor that isn't 0 was set by a snapshot or an aggregation
abbrev pub IsKeptFloor : ContRow → Type 0
IsKeptFloor r = 0 < r.floor.0 → is_stored_why r.why ≡ true
