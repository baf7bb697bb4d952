-- A change of one place of a container or of a snapshot: what it makes of a table, and what it writes.
use Rattle.std.specs.Prelude.{◌<◌, List, [], ◌∷◌, Some, None}
use Rattle.base_outside.specs.Images.{Range}
use Rattle.vos_places.specs.Codec.{IsContUnder, IsSnap}
use Rattle.vos_places.specs.Laws.{IsApart, cont_range, covered_by, snap_range, unused_range, with_cont, with_snap}
use Rattle.vos_places.specs.Tables.{Table}
use Rattle.vos_tables.specs.declared.change.Change.{Change}
use Rattle.vos_tables.specs.declared.change.Change.TheVariants.{Cont, Snapshot, Unused}

-- the range that it writes
abbrev pub range_of : Change → Range
range_of (Cont i r) = cont_range i r
range_of (Snapshot i s) = snap_range i s
range_of (Unused i) = unused_range i

-- the table with it
abbrev pub changed : Change → Table → Table
changed (Cont i r) t = with_cont i r t
changed (Snapshot i s) t = with_snap i (Some s) t
changed (Unused i) t = with_snap i None t

-- with several, the first of them first
abbrev pub all_changed : List Change → Table → Table
all_changed [] t = t
all_changed (x ∷ xs) t = all_changed xs (changed x t)

-- a change that a table can take: its place is there and can say it, and no container and no snapshot is twice in the table with it
abbrev pub Fits : Table → Change → Type 0
Fits t (Cont i r) = (i < 256) × IsContUnder (covered_by t.header) r × IsApart (with_cont i r t)
Fits t (Snapshot i s) = (i < 256) × IsSnap s × IsApart (with_snap i (Some s) t)
Fits t (Unused i) = (i < 256) × IsApart (with_snap i None t)

-- each of several can be taken where those before it are
abbrev pub AllFit : Table → List Change → Type 0
AllFit t [] = Unit {0}
AllFit t (x ∷ xs) = Fits t x × AllFit (changed x t) xs
