-- A node of a tree, as the code holds it.
use Rattle.std.specs.Prelude.{◌≡◌, ◌+◌, ℕ, List, max}
use Rattle.pmem_pages.specs.Blocks.{Blocks}
use Rattle.pmem_pages.specs.declared.node.Node.{Node}
use Rattle.pmem_pages.specs.declared.node.Pair.{Pair}
use Rattle.pmem_pages.specs.declared.node.Value.{Value}
use Rattle.pmem_pages.specs.Node.{node_of}
use Rattle.pmem_pages.specs.Shape.{Entry, Shape, Fork, root_of, height, Stands, node_at}
use Rattle.pmem_tree_base.specs.declared.read.Opened.{Opened}
use Rattle.pmem_tree_base.specs.declared.read.Sub.{Sub}

-- a node of an entry between two trees stands in this block
pub record Here (m : Blocks) (kind at : ℕ) (l : Shape) (e : Entry) (r : Shape) : Type 0 where
  pub at_is : at ≡ e.block
  pub stands : Stands m kind (Fork l e r)

abbrev pub SomeNode : Blocks → ℕ → ℕ → Type 0
SomeNode m kind at = (l : Shape) × (e : Entry) × (r : Shape) × Here m kind at l e r

-- and this is the node
abbrev pub IsNodeAt : Blocks → ℕ → ℕ → Node → Type 0
IsNodeAt m kind at n = (l : Shape) (e : Entry) (r : Shape) → Here m kind at l e r → n ≡ node_at l e r

-- the entry of a pair in a block
abbrev pub entry_of : ℕ → Pair → Entry
entry_of at p = record { block = at; key = p.key; value = p.value }

-- the node of a pair between two trees that the code holds
abbrev pub node_between : Pair → Sub → Sub → Node
node_between p l r = record { height = max l.height r.height + 1; left = l.root; right = r.root; key = p.key; value = p.value }

-- the pair of the node in a block
abbrev pub pair_in : ℕ → List ℕ → Pair
pair_in kind bs = record { key = (node_of kind bs).key; value = (node_of kind bs).value }

-- a node with another value
abbrev pub valued_node : Node → Value → Node
valued_node n v = record { height = n.height; left = n.left; right = n.right; key = n.key; value = v }

-- what the code holds of a tree is its root and its height
pub record IsSub (s : Sub) (t : Shape) : Type 0 where
  pub root_is : s.root ≡ root_of t
  pub height_is : s.height ≡ height t

-- a tree stands below this block
pub record StandsAt (m : Blocks) (kind at : ℕ) (t : Shape) : Type 0 where
  pub root_is : at ≡ root_of t
  pub stands : Stands m kind t

abbrev pub SomeStandsAt : Blocks → ℕ → ℕ → Type 0
SomeStandsAt m kind at = (t : Shape) × StandsAt m kind at t

-- a node with the trees below it, as it was opened
pub record Opens (kind at : ℕ) (l : Shape) (e : Entry) (r : Shape) (o : Opened) : Type 0 where
  pub entry_is : e ≡ entry_of at o.pair
  pub left_is : IsSub o.left l
  pub right_is : IsSub o.right r

abbrev pub OpensAt : Blocks → ℕ → ℕ → Opened → Type 0
OpensAt m kind at o = (l : Shape) (e : Entry) (r : Shape) → Here m kind at l e r → Opens kind at l e r o
