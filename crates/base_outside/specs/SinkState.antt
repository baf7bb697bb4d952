-- What sinks in memory show.
use Rattle.std.specs.Prelude.{ℕ, List}

-- a sink that never fails: the bytes that it holds, how many it can hold, and how often it took nothing
pub record SureSinkState : Type 0 where
  pub held : List ℕ
  pub room : ℕ
  pub stalls : ℕ

-- the same of a sink whose calls fail by their numbers, these numbers, how many calls there were, and
-- how many failed
pub record SinkState : Type 0 where
  pub held : List ℕ
  pub room : ℕ
  pub stalls : ℕ
  pub fails : List ℕ
  pub calls : ℕ
  pub faults : ℕ
