-- The end of the way on which a key goes into a tree, and what an insert stages for it.
use Rattle.std.specs.Prelude.{◌≡◌, ◌≢◌, ◌+◌, ◌*◌, ◌==◌, ℕ, Bool, true, false, cond}
use Rattle.pmem_pages.specs.Blocks.{Budget, IsSpent}
use Rattle.pmem_pages.specs.declared.node.TreeKey.{TreeKey}
use Rattle.pmem_pages.specs.Node.{key_cmp}
use Rattle.pmem_pages.specs.Shape.{Shape, Leaf, Fork, root_of, height, chosen}
use Rattle.pmem_tree_base.specs.declared.read.Sub.{Sub}

-- at each node on a key's way the two trees below it are as high as each other
abbrev pub all_even : TreeKey → Shape → Bool
all_even k Leaf = true
all_even k (Fork l e r) = cond (height l == height r) (chosen (key_cmp k e.key) (all_even k l) false (all_even k r)) false

-- how many nodes at the end of a key's way are so, in a row
abbrev pub even_end : TreeKey → Shape → ℕ
even_end k Leaf = 0
even_end k (Fork l e r) = cond (all_even k (Fork l e r)) 1 0 + chosen (key_cmp k e.key) (even_end k l) 0 (even_end k r)

-- at most a range for each of these nodes and so many besides, each of at most 256 bytes
abbrev pub StagesAtEnd : ℕ → TreeKey → Shape → Budget → Budget → Type 0
StagesAtEnd besides k t before now = IsSpent (even_end k t + besides) (256 * (even_end k t + besides)) before now

-- Five ranges besides, or one fewer where the root is another and stands no higher. Where the tree grew, all
-- the way is even, and one besides.
pub record GrowsAtEnd (k : TreeKey) (t : Shape) (s : Sub) (before now : Budget) : Type 0 where
  pub most : StagesAtEnd 5 k t before now
  pub turned : s.root ≢ root_of t → s.height ≡ height t → StagesAtEnd 4 k t before now
  pub grew : s.height ≡ height t + 1 → (all_even k t ≡ true) × StagesAtEnd 1 k t before now
