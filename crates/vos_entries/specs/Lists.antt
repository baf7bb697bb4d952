-- A list that begins at a block.
use Rattle.std.specs.Prelude.{◌≡◌, ◌⊎◌, ◌<◌, ◌+◌, ◌*◌, ◌^◌, ℕ, Bool, IsTrue, length}
use Rattle.pmem_pages.specs.Blocks.{Blocks, Budget, IsSpent}
use Rattle.pmem_pages.specs.Shape.{Shape, entries}
use Rattle.pmem_pages.specs.Owners.{Holds}
use Rattle.vos_versions.specs.vos_chain.Chains.{Chain, chain_owner, first_of}

-- a chain begins at this block, however many bytes it has
pub record IsListAt (m : Blocks) (first : ℕ) (c : Chain) : Type 0 where
  pub holds : Holds chain_owner m c
  pub first_is : first ≡ first_of c.blocks

abbrev pub HasList : Bool → Blocks → ℕ → Type 0
HasList tells m first = IsTrue tells → (c : Chain) × IsListAt m first c

abbrev pub OfList : Bool → Blocks → ℕ → (Chain → Type 0) → Type 0
OfList tells m first P = IsTrue tells → (c : Chain) → IsListAt m first c → P c

-- fewer ranges or bytes were left than a list of so many blocks and another value may want
abbrev pub FewerThan : ℕ → Budget → Type 0
FewerThan n b = (b.ranges < n + 1) ⊎ (b.bytes < n + 256)

-- than such a list and a removal from a tree may want
abbrev pub FewerToRemove : ℕ → Shape → Budget → Type 0
FewerToRemove n t b = (d : ℕ) → length (entries t) < 2 ^ d → (b.ranges < n + (16 * d + 32)) ⊎ (b.bytes < n + 256 * (16 * d + 32))

-- at most what these stage
abbrev pub StagesToRemove : ℕ → Shape → Budget → Budget → Type 0
StagesToRemove n t before now = (d : ℕ) → length (entries t) < 2 ^ d → IsSpent (n + (8 * d + 16)) (n + 256 * (8 * d + 16)) before now
