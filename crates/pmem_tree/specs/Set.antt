-- A pair comes into the tree below a block: as an entry of its own, or as another value at its key.
use Rattle.std.specs.Prelude.{◌≡◌, ◌≤◌, ◌<◌, ◌+◌, ◌^◌, ℕ, List, Option, Some, None, ⊤}
use Rattle.pmem_pages.specs.Blocks.{Blocks, Budget, IsTaken, IsSpent, put}
use Rattle.pmem_pages.specs.declared.node.Pair.{Pair}
use Rattle.pmem_pages.specs.Node.{IsKey, IsValue}
use Rattle.pmem_pages.specs.Shape.{Entry, Shape, root_of, height, entries, count, Stands, Balanced, Rises, entry_at}
use Rattle.pmem_tree_base.specs.declared.read.Sub.{Sub}
use Rattle.pmem_tree_base.specs.Nodes.{entry_of}
use Rattle.pmem_tree_base.specs.Put.{Put}
use Rattle.pmem_tree.specs.Ends.{GrowsAtEnd}
use Rattle.pmem_tree.specs.Grow.{Grown, GrowsCheaply}

-- a block that was taken for a pair, whose key the tree doesn't have
pub record Reserved (m : Blocks) (b : ℕ) (p : Pair) (t : Shape) : Type 0 where
  pub low : 1264 ≤ b
  pub high : b < 2 ^ 32
  pub taken : IsTaken m b
  pub outside : count b (entries t) ≡ 0
  pub missing : entry_at p.key (entries t) ≡ None

abbrev pub ReservedIf : Option ℕ → Blocks → Pair → Shape → Type 0
ReservedIf None m p t = ⊤
ReservedIf (Some b) m p t = Reserved m b p t

-- a tree below a block into which a pair may come, for which a block was taken or not
pub record CanSet (m : Blocks) (kind at depth : ℕ) (given : Option ℕ) (p : Pair) (t : Shape) : Type 0 where
  pub root_is : at ≡ root_of t
  pub stands : Stands m kind t
  pub rises : Rises (entries t)
  pub balanced : Balanced t
  pub apart : (q : ℕ) → count q (entries t) ≤ 1
  pub high : height t ≤ depth
  pub low : height t < 255
  pub key : IsKey p.key
  pub value : IsValue kind p.value
  pub reserved : ReservedIf given m p t

abbrev pub SomeSets : Blocks → ℕ → ℕ → ℕ → Option ℕ → Pair → Type 0
SomeSets m kind at depth given p = (t : Shape) × CanSet m kind at depth given p t

abbrev pub OfSetting : Blocks → ℕ → ℕ → ℕ → Option ℕ → Pair → (Shape → Type 0) → Type 0
OfSetting m kind at depth given p P = (t : Shape) → CanSet m kind at depth given p t → P t

-- a block that was free is taken
pub record Takes (m : Blocks) (before : Budget) (b : ℕ) (n : Blocks) (now : Budget) : Type 0 where
  pub bytes : List ℕ
  pub was_free : m b ≡ None
  pub taken : n ≡ put m b (Some bytes)
  pub low : 1264 ≤ b
  pub high : b < 2 ^ 32
  pub spent : IsSpent 1 1 before now
  pub free : now.free + 1 ≡ before.free

-- the block of a new entry is the one that was taken for it, or else is taken now
abbrev pub TakesIf : Option ℕ → Blocks → Budget → ℕ → Blocks → Budget → Type 0
TakesIf None m before b n now = Takes m before b n now
TakesIf (Some given) m before b n now = (b ≡ given) × ((n ≡ m) × (now ≡ before))

-- The pair came into the tree as an entry. Its block was taken before the first range was staged.
pub record SetsNew (m : Blocks) (kind : ℕ) (given : Option ℕ) (p : Pair) (t : Shape) (before : Budget) (n : Blocks) (s : Sub) (now : Budget) : Type 0 where
  pub block : ℕ
  pub begun : Blocks
  pub left : Budget
  pub takes : TakesIf given m before block begun left
  pub grown : Grown begun kind t (entry_of block p) n s
  pub cheap : GrowsCheaply t s left now
  pub ends : GrowsAtEnd p.key t s left now
  pub free : now.free ≡ left.free

-- The entry of its key has its value, and nothing was staged where it had that already. The tree is as high, with the same root.
pub record SetsOld (m : Blocks) (kind : ℕ) (p : Pair) (gone : Entry) (t : Shape) (before : Budget) (n : Blocks) (s : Sub) (now : Budget) : Type 0 where
  pub put : Put m kind t p n
  pub as_rooted : s.root ≡ root_of t
  pub as_high : s.height ≡ height t
  pub idle : gone.value ≡ p.value → (n ≡ m) × (now ≡ before)
  pub spent : IsSpent 1 256 before now
  pub free : now.free ≡ before.free

abbrev pub SetsBy : Option Entry → Blocks → ℕ → Option ℕ → Pair → Shape → Budget → Blocks → Sub → Budget → Type 0
SetsBy None m kind given p t before n s now = SetsNew m kind given p t before n s now
SetsBy (Some gone) m kind given p t before n s now = SetsOld m kind p gone t before n s now

-- by whether the tree has the key
abbrev pub Sets : Blocks → ℕ → Option ℕ → Pair → Shape → Budget → Blocks → Sub → Budget → Type 0
Sets m kind given p t before n s now = SetsBy (entry_at p.key (entries t)) m kind given p t before n s now
