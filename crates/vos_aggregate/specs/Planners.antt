-- What a planner holds.
use Rattle.std.specs.Prelude.{ℕ, Bool, List}

-- its marks, and for plans of how many versions there is memory
pub record Planned : Type 0 where
  pub marks : List Bool
  pub room : ℕ
