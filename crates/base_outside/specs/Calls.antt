-- Calls of which some fail by their numbers.
use Rattle.std.specs.Prelude.{ℕ, List}

-- the numbers of the calls that fail, counted from 1, how many calls there were, and how many failed
pub record Calls : Type 0 where
  pub fails : List ℕ
  pub calls : ℕ
  pub faults : ℕ
