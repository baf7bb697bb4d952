-- An entry is taken out of the tree below a block.
use Rattle.std.specs.Prelude.{◌≡◌, ◌≤◌, ◌<◌, ◌+◌, ℕ, ◌∷◌, ◌++◌, Some}
use Rattle.pmem_pages.specs.Blocks.{Blocks}
use Rattle.pmem_pages.specs.declared.node.Node.{Node}
use Rattle.pmem_pages.specs.declared.node.TreeKey.{TreeKey}
use Rattle.pmem_pages.specs.Shape.{Entry, Shape, Fork, root_of, height, entries, count, node_at, IsEntry, Stands, Balanced, Rises, Keeps, entry_at, removed}
use Rattle.pmem_tree_base.specs.declared.read.Sub.{Sub}
use Rattle.pmem_tree_base.specs.Nodes.{entry_of, IsSub}
use Rattle.pmem_tree.specs.declared.shrink.Cut.{Cut}
use Rattle.pmem_tree.specs.declared.shrink.First.{First}

-- a balanced tree without a block twice
pub record Whole (m : Blocks) (kind depth : ℕ) (t : Shape) : Type 0 where
  pub stands : Stands m kind t
  pub balanced : Balanced t
  pub apart : (q : ℕ) → count q (entries t) ≤ 1
  pub high : height t ≤ depth
  pub low : height t < 255

-- a tree below a block of which the first entry is taken
pub record CanTake (m : Blocks) (kind at depth : ℕ) (t : Shape) : Type 0 where
  pub root_is : at ≡ root_of t
  pub whole : Whole m kind depth t

abbrev pub SomeTake : Blocks → ℕ → ℕ → ℕ → Type 0
SomeTake m kind at depth = (t : Shape) × CanTake m kind at depth t

-- the tree without its first entry, whose block is as it was; as high as before or one lower
pub record Taken (m : Blocks) (kind : ℕ) (t : Shape) (n : Blocks) (f : First) : Type 0 where
  pub tree : Shape
  pub is_sub : IsSub f.rest tree
  pub entry : IsEntry kind (entry_of f.at f.pair)
  pub entries_are : entries t ≡ entry_of f.at f.pair ∷ entries tree
  pub stands : Stands n kind tree
  pub balanced : Balanced tree
  pub lower : height t ≤ height tree + 1
  pub upper : height tree ≤ height t
  pub keeps : Keeps m n (entries tree)

abbrev pub OfTaking : Blocks → ℕ → ℕ → ℕ → (Shape → Type 0) → Type 0
OfTaking m kind at depth P = (t : Shape) → CanTake m kind at depth t → P t

-- a node with the trees below it, of which the node's own entry is taken
pub record CanDrop (m : Blocks) (kind at depth : ℕ) (node : Node) (l : Shape) (e : Entry) (r : Shape) : Type 0 where
  pub at_is : at ≡ e.block
  pub node_is : node ≡ node_at l e r
  pub whole : Whole m kind depth (Fork l e r)

abbrev pub SomeDrop : Blocks → ℕ → ℕ → ℕ → Node → Type 0
SomeDrop m kind at depth node = (l : Shape) × (e : Entry) × (r : Shape) × CanDrop m kind at depth node l e r

-- what is below it, as one tree; as high as with it or one lower
pub record Dropped (m : Blocks) (kind : ℕ) (l : Shape) (e : Entry) (r : Shape) (n : Blocks) (s : Sub) : Type 0 where
  pub tree : Shape
  pub is_sub : IsSub s tree
  pub entries_are : entries tree ≡ entries l ++ entries r
  pub stands : Stands n kind tree
  pub balanced : Balanced tree
  pub lower : height (Fork l e r) ≤ height tree + 1
  pub upper : height tree ≤ height (Fork l e r)
  pub keeps : Keeps m n (entries tree)

abbrev pub OfDropping : Blocks → ℕ → ℕ → ℕ → Node → (Shape → Entry → Shape → Type 0) → Type 0
OfDropping m kind at depth node P = (l : Shape) (e : Entry) (r : Shape) → CanDrop m kind at depth node l e r → P l e r

-- a tree below a block that has a key
pub record CanShrink (m : Blocks) (kind at depth : ℕ) (key : TreeKey) (gone : Entry) (t : Shape) : Type 0 where
  pub root_is : at ≡ root_of t
  pub whole : Whole m kind depth t
  pub rises : Rises (entries t)
  pub gone_is : entry_at key (entries t) ≡ Some gone

abbrev pub SomeShrinks : Blocks → ℕ → ℕ → ℕ → TreeKey → Type 0
SomeShrinks m kind at depth key = (gone : Entry) × (t : Shape) × CanShrink m kind at depth key gone t

-- the tree without the key, whose block is as it was; as high as before or one lower
pub record Shrunk (m : Blocks) (kind : ℕ) (t : Shape) (key : TreeKey) (gone : Entry) (n : Blocks) (c : Cut) : Type 0 where
  pub tree : Shape
  pub is_sub : IsSub c.rest tree
  pub block_is : c.block ≡ gone.block
  pub entries_are : entries tree ≡ removed key (entries t)
  pub stands : Stands n kind tree
  pub balanced : Balanced tree
  pub lower : height t ≤ height tree + 1
  pub upper : height tree ≤ height t
  pub keeps : Keeps m n (entries tree)

abbrev pub OfShrinking : Blocks → Blocks → ℕ → ℕ → ℕ → TreeKey → Cut → Type 0
OfShrinking m n kind at depth key c = (gone : Entry) (t : Shape) → CanShrink m kind at depth key gone t → Shrunk m kind t key gone n c
