-- A value is put in the place of another, in the tree below a block.
use Rattle.std.specs.Prelude.{◌≡◌, ◌≤◌, ℕ, Some}
use Rattle.pmem_pages.specs.Blocks.{Blocks}
use Rattle.pmem_pages.specs.declared.node.Pair.{Pair}
use Rattle.pmem_pages.specs.Node.{IsValue}
use Rattle.pmem_pages.specs.Shape.{Entry, Shape, root_of, height, entries, count, Stands, Balanced, Rises, Keeps, entry_at, valued}

-- a tree below a block that has a key
pub record CanPut (m : Blocks) (kind at depth : ℕ) (p : Pair) (gone : Entry) (t : Shape) : Type 0 where
  pub root_is : at ≡ root_of t
  pub stands : Stands m kind t
  pub rises : Rises (entries t)
  pub apart : (q : ℕ) → count q (entries t) ≤ 1
  pub high : height t ≤ depth
  pub value : IsValue kind p.value
  pub there : entry_at p.key (entries t) ≡ Some gone

abbrev pub SomePuts : Blocks → ℕ → ℕ → ℕ → Pair → Type 0
SomePuts m kind at depth p = (gone : Entry) × (t : Shape) × CanPut m kind at depth p gone t

-- the tree with the value in its place, with the same root and as high
pub record Put (m : Blocks) (kind : ℕ) (t : Shape) (p : Pair) (n : Blocks) : Type 0 where
  pub tree : Shape
  pub root_as : root_of tree ≡ root_of t
  pub height_as : height tree ≡ height t
  pub stands : Stands n kind tree
  pub balanced : Balanced t → Balanced tree
  pub entries_are : entries tree ≡ valued p.key p.value (entries t)
  pub keeps : Keeps m n (entries t)

abbrev pub OfPutting : Blocks → ℕ → ℕ → ℕ → Pair → (Shape → Type 0) → Type 0
OfPutting m kind at depth p P = (gone : Entry) (t : Shape) → CanPut m kind at depth p gone t → P t

-- what holds where the key has that value already
abbrev pub OfSame : Blocks → ℕ → ℕ → ℕ → Pair → Type 0 → Type 0
OfSame m kind at depth p A = (gone : Entry) (t : Shape) → CanPut m kind at depth p gone t → gone.value ≡ p.value → A
