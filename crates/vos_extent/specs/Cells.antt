-- Indexes on the way: what each holds so far, and when that was written.
use Rattle.std.specs.Prelude.{◌&&◌, ◌+◌, ◌-◌, ◌*◌, ◌/◌, ℕ, nat_le, nat_lt, List, length, take, drop, Option, Some, None, if◌then◌else◌}
use Rattle.vos_values.specs.declared.keys.Moment.{Moment}
use Rattle.vos_moments.specs.vos_levels.Moments.{is_earlier}
use Rattle.vos_extent.specs.declared.cells.Cell.{Cell}

-- a record, and when it was written
abbrev pub Dated : Type 0
Dated = Moment × List ℕ

abbrev pub dated_in : ℕ → Option Cell → Option Dated
dated_in unit None = None
dated_in unit (Some c) = Some (c.moment, take unit c.held)

-- what an index holds after a record of a moment, where what it held isn't later
abbrev pub dated_with : Option Dated → Dated → Option Dated
dated_with None d = Some d
dated_with (Some a) d = if is_earlier d.0 a.0 then Some a else Some d

-- what an index holds after an extent, if that covers it
abbrev pub painted : ℕ → ℕ → ℕ → Moment → List ℕ → Option Dated → Option Dated
painted unit i low moment bytes d =
    if nat_le low i && nat_lt i (low + length bytes / unit) then dated_with d (moment, take unit (drop ((i - low) * unit) bytes)) else d
