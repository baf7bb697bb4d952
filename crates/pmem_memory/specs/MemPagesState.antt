-- What is told of blocks in memory.
use Rattle.std.specs.Prelude.{ℕ}

-- how many blocks are free, how many ranges and bytes are left to stage, and how many blocks were read
pub record MemPagesState : Type 0 where
  pub free : ℕ
  pub ranges : ℕ
  pub bytes : ℕ
  pub reads : ℕ
