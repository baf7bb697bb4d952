-- What a clock holds, and what it issues next.
use Rattle.std.specs.Prelude.{ℕ, nat_le, Option, Some, None, if◌then◌else◌}
use Rattle.base_types.specs.Epochs.{issued_ticks, last_ticks}

-- the target that issues, and the greatest ticks so far
pub record Clock : Type 0 where
  pub target : ℕ
  pub ticks : ℕ

abbrev pub within_last : ℕ → Option ℕ
within_last ticks = if nat_le ticks last_ticks then Some ticks else None

-- the ticks that the clock issues next at a reading, after this tracker; none where they would pass the last ones
abbrev pub next_ticks : Clock → ℕ → ℕ → Option ℕ
next_ticks clock reading tracker = within_last (issued_ticks clock.ticks reading tracker)
