-- The shape of a tree that stands in blocks: a ghost, with the number of the block at each node.
use Rattle.std.specs.Prelude.{◌≡◌, ◌≤◌, ◌<◌, ◌+◌, ◌^◌, max, ℕ, List, [], ◌∷◌, ◌++◌, Option, Some, None}
use Rattle.std.specs.declared.cmp.Ordering.{Ordering}
use Rattle.std.specs.declared.cmp.Ordering.TheVariants.{Less, Equal, Greater}
use Rattle.pmem_pages.specs.Blocks.{Blocks, put}
use Rattle.pmem_pages.specs.Owners.{times}
use Rattle.pmem_pages.specs.declared.node.TreeKey.{TreeKey}
use Rattle.pmem_pages.specs.declared.node.Value.{Value}
use Rattle.pmem_pages.specs.declared.node.Node.{Node}
use Rattle.pmem_pages.specs.Node.{node_bytes, key_cmp, IsKey, IsValue}

-- a pair and the block that it stands in
pub record Entry : Type 0 where
  pub block : ℕ
  pub key : TreeKey
  pub value : Value

pub data Shape : Type 0 where
  Leaf : Shape
  Fork : Shape → Entry → Shape → Shape

abbrev pub root_of : Shape → ℕ
root_of Leaf = 0
root_of (Fork l e r) = e.block

abbrev pub height : Shape → ℕ
height Leaf = 0
height (Fork l e r) = max (height l) (height r) + 1

-- the pairs in order, with their blocks
abbrev pub entries : Shape → List Entry
entries Leaf = []
entries (Fork l e r) = entries l ++ e ∷ entries r

-- the blocks of entries
abbrev pub blocks_of : List Entry → List ℕ
blocks_of [] = []
blocks_of (e ∷ es) = e.block ∷ blocks_of es

-- how often a block stands in a list of entries
unfoldable pub count : ℕ → List Entry → ℕ
count q es = times q (blocks_of es)

-- the node of an entry between two trees
abbrev pub node_at : Shape → Entry → Shape → Node
node_at l e r = record { height = max (height l) (height r) + 1; left = root_of l; right = root_of r; key = e.key; value = e.value }

-- an entry that may stand in a tree of the kind
pub record IsEntry (kind : ℕ) (e : Entry) : Type 0 where
  pub low : 1264 ≤ e.block
  pub high : e.block < 2 ^ 32
  pub key : IsKey e.key
  pub value : IsValue kind e.value

-- a node stands in its block
pub record NodeStands (m : Blocks) (kind : ℕ) (l : Shape) (e : Entry) (r : Shape) : Type 0 where
  pub entry : IsEntry kind e
  pub block : m e.block ≡ Some (node_bytes kind (node_at l e r))

-- every node of the shape stands in its block
abbrev pub Stands : Blocks → ℕ → Shape → Type 0
Stands m kind Leaf = Unit {0}
Stands m kind (Fork l e r) = NodeStands m kind l e r × Stands m kind l × Stands m kind r

-- two heights differ by at most this
pub record Near (by a b : ℕ) : Type 0 where
  pub left : a ≤ b + by
  pub right : b ≤ a + by

-- at each node the heights of the two trees below it differ by at most one
abbrev pub Balanced : Shape → Type 0
Balanced Leaf = Unit {0}
Balanced (Fork l e r) = Near 1 (height l) (height r) × Balanced l × Balanced r

-- each key is below k, or above it
abbrev pub AllBelow : TreeKey → List Entry → Type 0
AllBelow k [] = Unit {0}
AllBelow k (e ∷ es) = (key_cmp e.key k ≡ Less) × AllBelow k es

abbrev pub AllAbove : TreeKey → List Entry → Type 0
AllAbove k [] = Unit {0}
AllAbove k (e ∷ es) = (key_cmp k e.key ≡ Less) × AllAbove k es

-- keys rise
abbrev pub Rises : List Entry → Type 0
Rises [] = Unit {0}
Rises (e ∷ es) = AllAbove e.key es × Rises es

-- The shape is a tree of this kind below this root: each node stands in its block with its height, no
-- block stands in it twice, it is balanced, and its keys rise.
pub record IsTree (m : Blocks) (kind at : ℕ) (t : Shape) : Type 0 where
  pub root : at ≡ root_of t
  pub stands : Stands m kind t
  pub apart : (q : ℕ) → count q (entries t) ≤ 1
  pub balanced : Balanced t
  pub rises : Rises (entries t)

-- by how a key lies to another
abbrev pub chosen : {X : Type 0} → Ordering → X → X → X → X
chosen Less a b c = a
chosen Equal a b c = b
chosen Greater a b c = c

-- the entry at a key
abbrev pub entry_at : TreeKey → List Entry → Option Entry
entry_at k [] = None
entry_at k (e ∷ es) = chosen (key_cmp k e.key) None (Some e) (entry_at k es)

-- the first entry whose key is above k, in a list whose keys rise
abbrev pub first_above : TreeKey → List Entry → Option Entry
first_above k [] = None
first_above k (e ∷ es) = chosen (key_cmp k e.key) (Some e) (first_above k es) (first_above k es)

-- what was found, or else this
abbrev pub or_this : {X : Type 0} → Option X → X → X
or_this None x = x
or_this (Some y) x = y

-- the last entry whose key is below k, in a list whose keys rise
abbrev pub last_under : TreeKey → List Entry → Option Entry
last_under k [] = None
last_under k (e ∷ es) = chosen (key_cmp k e.key) None None (Some (or_this (last_under k es) e))

-- the entries with one more in its place
abbrev pub inserted : Entry → List Entry → List Entry
inserted x [] = x ∷ []
inserted x (e ∷ es) = chosen (key_cmp x.key e.key) (x ∷ e ∷ es) (e ∷ es) (e ∷ inserted x es)

-- the entries without the one at a key
abbrev pub removed : TreeKey → List Entry → List Entry
removed k [] = []
removed k (e ∷ es) = chosen (key_cmp k e.key) (e ∷ es) es (e ∷ removed k es)

-- the entries with another value at a key
abbrev pub valued : TreeKey → Value → List Entry → List Entry
valued k v [] = []
valued k v (e ∷ es) = chosen (key_cmp k e.key) (e ∷ es) (record { block = e.block; key = e.key; value = v } ∷ es) (e ∷ valued k v es)

-- blocks outside these are as they were
abbrev pub Keeps : Blocks → Blocks → List Entry → Type 0
Keeps m n es = (q : ℕ) → count q es ≡ 0 → n q ≡ m q

-- the blocks with the node of an entry between two trees
abbrev pub with_node : Blocks → ℕ → Shape → Entry → Shape → Blocks
with_node m kind l e r = put m e.block (Some (node_bytes kind (node_at l e r)))
