-- What a look-up says of the tree below a block.
use Rattle.std.specs.Prelude.{◌≡◌, ◌≤◌, ℕ, Bool, true, false, List, Option, Some, None}
use Rattle.pmem_pages.specs.Blocks.{Blocks}
use Rattle.pmem_pages.specs.declared.node.Pair.{Pair}
use Rattle.pmem_pages.specs.declared.node.Value.{Value}
use Rattle.pmem_pages.specs.Node.{node_of}
use Rattle.pmem_pages.specs.Shape.{Entry, Shape, root_of, height, entries, Stands, Rises}

-- a tree of the kind, whose keys rise, stands below this block, no higher than this
pub record Below (m : Blocks) (kind at depth : ℕ) (t : Shape) : Type 0 where
  pub root : at ≡ root_of t
  pub stands : Stands m kind t
  pub rises : Rises (entries t)
  pub high : height t ≤ depth

abbrev pub SomeBelow : Blocks → ℕ → ℕ → ℕ → Type 0
SomeBelow m kind at depth = (t : Shape) × Below m kind at depth t

-- what holds of every such tree
abbrev pub OfBelow : Blocks → ℕ → ℕ → ℕ → (Shape → Type 0) → Type 0
OfBelow m kind at depth P = (t : Shape) → Below m kind at depth t → P t

-- the value of an entry, and the pair
abbrev pub value_of : Option Entry → Option Value
value_of None = None
value_of (Some e) = Some e.value

abbrev pub pair_of : Option Entry → Option Pair
pair_of None = None
pair_of (Some e) = Some (record { key = e.key; value = e.value })

-- the value of the node in a block, if the node was found there
abbrev pub value_in : Bool → ℕ → List ℕ → Option Value
value_in true kind bs = Some (node_of kind bs).value
value_in false kind bs = None
