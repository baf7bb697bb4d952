-- Two trees and an entry between them become one balanced tree.
use Rattle.std.specs.Prelude.{◌≡◌, ◌≢◌, ◌≤◌, ◌<◌, ◌+◌, max, ℕ, ◌∷◌, ◌++◌}
use Rattle.pmem_pages.specs.Blocks.{Blocks, IsTaken}
use Rattle.pmem_pages.specs.Shape.{Entry, Shape, Leaf, Fork, height, entries, count, IsEntry, Stands, Near, Balanced, Keeps}
use Rattle.pmem_tree_base.specs.declared.read.Opened.{Opened}
use Rattle.pmem_tree_base.specs.declared.read.Sub.{Sub}
use Rattle.pmem_tree_base.specs.Nodes.{IsSub, Opens}

-- two trees stand apart, and apart from the block of an entry, and differ in height by at most two
pub record Parts (m : Blocks) (kind : ℕ) (l : Shape) (e : Entry) (r : Shape) : Type 0 where
  pub left : Stands m kind l
  pub right : Stands m kind r
  pub entry : IsEntry kind e
  pub taken : IsTaken m e.block
  pub apart : (q : ℕ) → count q (entries l ++ e ∷ entries r) ≤ 1
  pub balanced_left : Balanced l
  pub balanced_right : Balanced r
  pub near : Near 2 (height l) (height r)
  pub low : max (height l) (height r) < 255

-- of the trees below a node one is higher
abbrev pub Leans : Shape → Type 0
Leans Leaf = ⊥
Leans (Fork l e r) = height l ≢ height r

-- One tree with the same entries stands in their blocks, as high as the higher one or one higher. Where the
-- two were near, nothing was turned. Where one was two higher and leant, it is as high as that was.
pub record Joins (m : Blocks) (kind : ℕ) (l : Shape) (e : Entry) (r : Shape) (n : Blocks) (t : Shape) : Type 0 where
  pub stands : Stands n kind t
  pub same : entries t ≡ entries l ++ e ∷ entries r
  pub balanced : Balanced t
  pub lower : max (height l) (height r) ≤ height t
  pub upper : height t ≤ max (height l) (height r) + 1
  pub plain : Near 1 (height l) (height r) → t ≡ Fork l e r
  pub left_leant : height r + 2 ≤ height l → Leans l → height t ≡ height l
  pub right_leant : height l + 2 ≤ height r → Leans r → height t ≡ height r
  pub keeps : Keeps m n (entries l ++ e ∷ entries r)

-- two trees that the code holds, and an entry
pub record Held (m : Blocks) (kind : ℕ) (e : Entry) (a b : Sub) (l r : Shape) : Type 0 where
  pub left_is : IsSub a l
  pub right_is : IsSub b r
  pub parts : Parts m kind l e r

abbrev pub SomeHeld : Blocks → ℕ → Entry → Sub → Sub → Type 0
SomeHeld m kind e a b = (l : Shape) × (r : Shape) × Held m kind e a b l r

-- the code now holds the joined tree
pub record Joined (m : Blocks) (kind : ℕ) (l : Shape) (e : Entry) (r : Shape) (n : Blocks) (s : Sub) : Type 0 where
  pub tree : Shape
  pub is_sub : IsSub s tree
  pub joins : Joins m kind l e r n tree

abbrev pub JoinsHeld : Blocks → Blocks → ℕ → Entry → Sub → Sub → Sub → Type 0
JoinsHeld m n kind e a b s = (l r : Shape) → Held m kind e a b l r → Joined m kind l e r n s

-- The left one of two trees is two higher, and was opened: the two below it, and the right one.
pub record LeansRight (m : Blocks) (kind : ℕ) (e : Entry) (top : ℕ) (o : Opened) (c : Sub) (x : Shape) (j : Entry) (y : Shape) (r : Shape) : Type 0 where
  pub opens : Opens kind top x j y o
  pub right_is : IsSub c r
  pub parts : Parts m kind (Fork x j y) e r
  pub two_higher : height (Fork x j y) ≡ height r + 2

abbrev pub SomeLeansRight : Blocks → ℕ → Entry → ℕ → Opened → Sub → Type 0
SomeLeansRight m kind e top o c = (x : Shape) × (j : Entry) × (y : Shape) × (r : Shape) × LeansRight m kind e top o c x j y r

abbrev pub TurnsRight : Blocks → Blocks → ℕ → Entry → ℕ → Opened → Sub → Sub → Type 0
TurnsRight m n kind e top o c s = (x : Shape) (j : Entry) (y : Shape) (r : Shape) → LeansRight m kind e top o c x j y r → Joined m kind (Fork x j y) e r n s

-- The right one is two higher.
pub record LeansLeft (m : Blocks) (kind : ℕ) (e : Entry) (a : Sub) (top : ℕ) (o : Opened) (l : Shape) (y : Shape) (j : Entry) (x : Shape) : Type 0 where
  pub opens : Opens kind top y j x o
  pub left_is : IsSub a l
  pub parts : Parts m kind l e (Fork y j x)
  pub two_higher : height (Fork y j x) ≡ height l + 2

abbrev pub SomeLeansLeft : Blocks → ℕ → Entry → Sub → ℕ → Opened → Type 0
SomeLeansLeft m kind e a top o = (l : Shape) × (y : Shape) × (j : Entry) × (x : Shape) × LeansLeft m kind e a top o l y j x

abbrev pub TurnsLeft : Blocks → Blocks → ℕ → Entry → Sub → ℕ → Opened → Sub → Type 0
TurnsLeft m n kind e a top o s = (l : Shape) (y : Shape) (j : Entry) (x : Shape) → LeansLeft m kind e a top o l y j x → Joined m kind l e (Fork y j x) n s
