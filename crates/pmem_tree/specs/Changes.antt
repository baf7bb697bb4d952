-- What the calls that change a tree make of it.
use Rattle.std.specs.Prelude.{◌≡◌, ℕ, Option, Some, None}
use Rattle.pmem_pages.specs.Blocks.{Blocks}
use Rattle.pmem_pages.specs.Owners.{Changed}
use Rattle.pmem_pages.specs.declared.node.TreeKey.{TreeKey}
use Rattle.pmem_pages.specs.declared.node.Value.{Value}
use Rattle.pmem_pages.specs.Shape.{Entry, Shape, entries, entry_at, IsTree, inserted, removed, valued}
use Rattle.pmem_pages.specs.Owned.{tree_owner}

-- The tree with one more pair, in a block that was free: the others keep their blocks.
pub record Inserts (m : Blocks) (kind : ℕ) (t : Shape) (key : TreeKey) (value : Value) (n : Blocks) (root : ℕ) : Type 0 where
  pub tree : Shape
  pub block : ℕ
  pub was_free : m block ≡ None
  pub is_tree : IsTree n kind root tree
  pub entries_are : entries tree ≡ inserted (record { block = block; key = key; value = value }) (entries t)
  pub changed : Changed (tree_owner kind) m t n tree

-- The tree with another value at a key: each pair keeps its block.
pub record Puts (m : Blocks) (kind : ℕ) (t : Shape) (key : TreeKey) (value : Value) (n : Blocks) (root : ℕ) : Type 0 where
  pub tree : Shape
  pub is_tree : IsTree n kind root tree
  pub entries_are : entries tree ≡ valued key value (entries t)
  pub changed : Changed (tree_owner kind) m t n tree

-- a pair whose key wasn't there came in, and one whose key was there has another value
abbrev pub PutBy : Option Entry → Blocks → ℕ → Shape → TreeKey → Value → Blocks → ℕ → Type 0
PutBy None m kind t key value n root = Inserts m kind t key value n root
PutBy (Some e) m kind t key value n root = Puts m kind t key value n root

abbrev pub PutAt : Blocks → ℕ → Shape → TreeKey → Value → Blocks → ℕ → Type 0
PutAt m kind t key value n root = PutBy (entry_at key (entries t)) m kind t key value n root

-- how many blocks that takes
abbrev pub put_blocks : Option Entry → ℕ
put_blocks None = 1
put_blocks (Some e) = 0

-- The tree without the pair at a key, whose block is free: the others keep their blocks.
pub record Removes (m : Blocks) (kind : ℕ) (t : Shape) (key : TreeKey) (gone : Entry) (n : Blocks) (root : ℕ) : Type 0 where
  pub tree : Shape
  pub now_free : n gone.block ≡ None
  pub is_tree : IsTree n kind root tree
  pub entries_are : entries tree ≡ removed key (entries t)
  pub changed : Changed (tree_owner kind) m t n tree
