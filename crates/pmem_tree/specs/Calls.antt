-- What is said of every call of a tree, and what it costs.
use Rattle.std.specs.Prelude.{◌⊎◌, ◌≤◌, ℕ, Bool, IsTrue, ◌<◌, ◌+◌, ◌*◌, ◌^◌, length}
use Rattle.pmem_pages.specs.Blocks.{Blocks, Budget, IsSpent}
use Rattle.pmem_pages.specs.Shape.{Shape, IsTree, entries}

-- where the blocks are told, this holds of the tree of this kind below this root
abbrev pub OfTree : Bool → Blocks → ℕ → ℕ → (Shape → Type 0) → Type 0
OfTree tells m kind at P = IsTrue tells → (t : Shape) → IsTree m kind at t → P t

-- where the blocks are told, there is such a tree, and this holds of it
abbrev pub HasTree : Bool → Blocks → ℕ → ℕ → (Shape → Type 0) → Type 0
HasTree tells m kind at P = IsTrue tells → (t : Shape) × (IsTree m kind at t × P t)

-- At most so many steps for each binary digit of the number of pairs, and so many besides. With d digits
-- the number is below the d-th power of two.
abbrev pub StepsAtMost : ℕ → ℕ → Shape → ℕ → ℕ → Type 0
StepsAtMost each besides t before now = (d : ℕ) → length (entries t) < 2 ^ d → now ≤ before + (each * d + besides)

-- at most so many ranges for each binary digit of the number of pairs and so many besides, each of at most
-- 256 bytes
abbrev pub StagesAtMost : ℕ → ℕ → Shape → Budget → Budget → Type 0
StagesAtMost each besides t before now = (d : ℕ) → length (entries t) < 2 ^ d → IsSpent (each * d + besides) (256 * (each * d + besides)) before now

-- fewer ranges or bytes are left than a change of a tree may want, whose number of pairs has so many digits
abbrev pub IsShort : ℕ → Budget → Type 0
IsShort d b = (b.ranges < 16 * d + 32) ⊎ (b.bytes < 256 * (16 * d + 32))

-- fewer ranges or bytes were left than a change of the tree may want
abbrev pub TooFew : Shape → Budget → Type 0
TooFew t b = (d : ℕ) → length (entries t) < 2 ^ d → IsShort d b
