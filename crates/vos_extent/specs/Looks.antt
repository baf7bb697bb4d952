-- A look at a stretch of an array, and what an extent makes of it.
use Rattle.std.specs.Prelude.{◌≡◌, ◌&&◌, ◌+◌, ◌/◌, ◌<◌, ℕ, Bool, not, nat_lt, List, length, map, take, get_or, Option, Some, None}
use Rattle.vos_values.specs.declared.keys.Moment.{Moment}
use Rattle.vos_moments.specs.vos_levels.Moments.{is_earlier}
use Rattle.vos_extent.specs.declared.cells.Cell.{Cell}
use Rattle.vos_extent.specs.declared.extent.ExtentVersion.{ExtentVersion}
use Rattle.vos_extent.specs.declared.pieces.Look.{Look}
use Rattle.vos_extent.specs.declared.pieces.Placed.{Placed}
use Rattle.vos_extent.specs.Cells.{Dated, dated_in}
use Rattle.vos_extent.specs.Extents.{Stored}
use Rattle.vos_extent.specs.Shown.{greatest, hides, if_passes, later_of, moment_of, record_in, shows}

abbrev pub moment_at : Placed → Moment
moment_at p = record { epoch = p.at.epoch; minor = p.at.minor }

-- an extent reaches to the indexes, is seen, and no punch is later
abbrev pub is_about : Look → Placed → Bool
is_about l p = nat_lt l.low (p.at.low + p.mark.length / l.unit) && is_earlier (moment_at p) l.start && not (hides l.punched (moment_at p))

-- what an index holds by an extent
abbrev pub view : ℕ → ℕ → Option ExtentVersion → Option Dated
view unit i None = None
view unit i (Some v) = Some (moment_of v, record_in unit i v)

-- at an index an extent shows
abbrev pub shows_at : Look → ℕ → ExtentVersion → Bool
shows_at l i v = shows l.unit l.start l.punched (l.low + i) v

-- an extent is laid over what the indexes held by others
abbrev pub Lays : Look → Stored → List (Option Cell) → List (Option Cell) → Type 0
Lays l s old now =
    (i : ℕ) → i < length old → (best : Option ExtentVersion) → dated_in l.unit (get_or old i None) ≡ view l.unit (l.low + i) best
    → dated_in l.unit (get_or now i None) ≡ view l.unit (l.low + i) (later_of best (if_passes (shows_at l i) s.extent))

-- the indexes hold what the greatest of these extents say
abbrev pub Painted : Look → List (Option Cell) → List ExtentVersion → Type 0
Painted l cells vs = (i : ℕ) → i < length cells → dated_in l.unit (get_or cells i None) ≡ view l.unit (l.low + i) (greatest (shows_at l i) vs)

-- the records that indexes hold
abbrev pub record_of_cell : ℕ → Option Cell → Option (List ℕ)
record_of_cell unit None = None
record_of_cell unit (Some c) = Some (take unit c.held)

abbrev pub records_of : ℕ → List (Option Cell) → List (Option (List ℕ))
records_of unit cells = map (record_of_cell unit) cells
