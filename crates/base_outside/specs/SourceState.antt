-- What a source in memory shows.
use Rattle.std.specs.Prelude.{ℕ, List}

-- the bytes that are left, the numbers of the calls that fail, how many calls there were, and how
-- many failed
pub record SourceState : Type 0 where
  pub left : List ℕ
  pub fails : List ℕ
  pub calls : ℕ
  pub faults : ℕ
