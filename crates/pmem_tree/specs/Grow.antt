-- An entry goes into the tree below a block.
use Rattle.std.specs.Prelude.{◌≡◌, ◌≤◌, ◌<◌, ◌+◌, ◌*◌, ℕ, ◌∷◌, None}
use Rattle.pmem_pages.specs.Blocks.{Blocks, Budget, IsTaken, IsSpent}
use Rattle.pmem_pages.specs.Shape.{Entry, Shape, root_of, height, entries, count, IsEntry, Stands, Balanced, Rises, Keeps, entry_at, inserted}
use Rattle.pmem_tree_base.specs.declared.read.Sub.{Sub}
use Rattle.pmem_tree_base.specs.Nodes.{IsSub}
use Rattle.pmem_tree_base.specs.Join.{Leans}

-- a tree below a block into which an entry may go, whose own block is taken and not of the tree
pub record CanGrow (m : Blocks) (kind at depth : ℕ) (x : Entry) (t : Shape) : Type 0 where
  pub root_is : at ≡ root_of t
  pub stands : Stands m kind t
  pub rises : Rises (entries t)
  pub balanced : Balanced t
  pub apart : (q : ℕ) → count q (entries t) ≤ 1
  pub high : height t ≤ depth
  pub low : height t < 255
  pub entry : IsEntry kind x
  pub taken : IsTaken m x.block
  pub outside : count x.block (entries t) ≡ 0
  pub missing : entry_at x.key (entries t) ≡ None

-- The tree with the entry in its place, as high as before or one higher. Where it is higher, and wasn't
-- empty, it leans.
pub record Grown (m : Blocks) (kind : ℕ) (t : Shape) (x : Entry) (n : Blocks) (s : Sub) : Type 0 where
  pub tree : Shape
  pub is_sub : IsSub s tree
  pub stands : Stands n kind tree
  pub entries_are : entries tree ≡ inserted x (entries t)
  pub balanced : Balanced tree
  pub lower : height t ≤ height tree
  pub upper : height tree ≤ height t + 1
  pub leans : height tree ≡ height t + 1 → 0 < height t → Leans tree
  pub keeps : Keeps m n (x ∷ entries t)

-- A range a level, and two more where a node was turned. A tree that grew wasn't turned.
pub record GrowsCheaply (t : Shape) (s : Sub) (before now : Budget) : Type 0 where
  pub at_most : IsSpent (height t + 3) (256 * (height t + 3)) before now
  pub grew : s.height ≡ height t + 1 → IsSpent (height t + 1) (256 * (height t + 1)) before now
