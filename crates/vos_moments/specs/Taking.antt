-- What many changes of one tree may stage, and what they make of its versions.
use Rattle.std.specs.Prelude.{◌≡◌, ◌⊎◌, ◌<◌, ◌+◌, ◌*◌, ◌^◌, ℕ, Bool, true, false, List, length, Option, Some, None}
use Rattle.vos_punches.specs.pmem_pages.Blocks.{Blocks, Budget, IsSpent}
use Rattle.vos_punches.specs.pmem_pages.Owners.{Owner}
use Rattle.vos_punches.specs.pmem_pages.Shape.{Shape, entries}
use Rattle.vos_punches.specs.vos_levels.Calls.{Becomes}
use Rattle.vos_punches.specs.vos_levels.Changes.{changed_by, freed_by, sum_those}
use Rattle.vos_punches.specs.vos_levels.Levels.{Hung, hung_root}

-- how many pass a test
abbrev pub one_each : {A : Type 0} → A → ℕ
one_each a = 1

abbrev pub number_of : {A : Type 0} → (A → Bool) → List A → ℕ
number_of test xs = sum_those test one_each xs

-- whether what was found is taken, if something was
abbrev pub takes_one : {K : Type 0} → (K → Bool) → Option K → Bool
takes_one takes None = false
takes_one takes (Some k) = takes k

-- At most so many values were put, of one range each.
abbrev pub PutsAtMost : ℕ → Budget → Budget → Type 0
PutsAtMost n before now = IsSpent n (256 * n) before now

-- At most so many pairs were removed from a tree, and with each so many blocks of a chain given back: one range of a byte for
-- each of these.
abbrev pub RemovesAtMost : ℕ → ℕ → Shape → Budget → Budget → Type 0
RemovesAtMost n chain t before now = (d : ℕ) → length (entries t) < 2 ^ d → IsSpent (n * (8 * d + 16 + chain)) (n * (256 * (8 * d + 16) + chain)) before now

-- Fewer ranges or bytes were left than so many removals, and one change of the tree besides, may want.
abbrev pub TooFewToRemove : ℕ → ℕ → Shape → Budget → Type 0
TooFewToRemove n chain t b = (d : ℕ) → length (entries t) < 2 ^ d → (b.ranges < n * (8 * d + 16 + chain) + (16 * d + 32)) ⊎ (b.bytes < n * (256 * (8 * d + 16) + chain) + 256 * (16 * d + 32))

-- The versions of a tree that pass a test became done, or went with their chains of at most so many blocks: what they became,
-- what that staged, and the blocks that it gave back.
pub record Took {A V : Type 0} (O : Owner (Hung A)) (shown : Hung A → List V) (keep : Bool) (taken : V → Bool) (done : V → V) (size : V → ℕ) (chain : ℕ) (m : Blocks) (g : Hung A) (before : Budget) (n : Blocks) (at : ℕ) (after : Budget) : Type 0 where
  pub becomes : Becomes O hung_root shown m g n at (λ vs ws. ws ≡ changed_by keep taken done vs)
  pub removes : RemovesAtMost (number_of taken (shown g)) chain g.0 before after
  pub puts : keep ≡ true → PutsAtMost (number_of taken (shown g)) before after
  pub root : keep ≡ true → at ≡ hung_root g
  pub gives : after.free ≡ before.free + freed_by keep taken size (shown g)
