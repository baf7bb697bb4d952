-- The blocks of a region: the bytes of each block that is taken, and none of one that is free.
use Rattle.std.specs.Prelude.{◌≡◌, ◌⊎◌, ℕ, ◌+◌, ◌≤◌, Bool, true, cond, ◌==◌, List, Option, Some, Result, OnOk, OnErr, IsErr}
use Rattle.base_outside.specs.Causes.{Rose}

abbrev pub Blocks : Type 0
Blocks = ℕ → Option (List ℕ)

-- the blocks with another content of one of them
unfoldable pub put : Blocks → ℕ → Option (List ℕ) → Blocks
put blocks b content q = cond (q == b) content (blocks q)

-- a block is taken
pub record IsTaken (blocks : Blocks) (b : ℕ) : Type 0 where
  pub bytes : List ℕ
  pub holds : blocks b ≡ Some bytes

-- what is free and what is left to stage: free blocks, ranges and bytes
pub record Budget : Type 0 where
  pub free : ℕ
  pub ranges : ℕ
  pub bytes : ℕ

-- at most so many ranges and bytes were staged, and none given back
pub record IsSpent (ranges bytes : ℕ) (before now : Budget) : Type 0 where
  pub ranges_most : before.ranges ≤ now.ranges + ranges
  pub ranges_least : now.ranges ≤ before.ranges
  pub bytes_most : before.bytes ≤ now.bytes + bytes
  pub bytes_least : now.bytes ≤ before.bytes

-- An answer that stops comes only where it had stopped before, or a count rose. After it, every call
-- that may stop does.
pub record Stops {T E : Type 0} (was is : Bool) (faults_before faults_now burns_before burns_now : ℕ) (result : Result T E) : Type 0 where
  pub later_faults : faults_before ≤ faults_now
  pub later_burns : burns_before ≤ burns_now
  pub cause : OnErr result ((was ≡ true) ⊎ (Rose faults_before faults_now ⊎ Rose burns_before burns_now))
  pub stopped : OnErr result (is ≡ true)
  pub again : was ≡ true → IsErr result
  pub once : was ≡ true → is ≡ true
  pub went_on : OnOk result (was ≡ is)
