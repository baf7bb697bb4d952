-- What is found of a node, and what is gathered of a tree.
use Rattle.std.specs.Prelude.{◌≡◌, ◌≤◌, ◌+◌, ◌*◌, ◌==◌, ◌&&◌, not, ℕ, Bool, List, [], ◌∷◌, ◌++◌, length, Option, Some, None}
use Rattle.pmem_pages.specs.declared.node.Node.{Node}
use Rattle.pmem_pages.specs.declared.node.TreeKey.{TreeKey}
use Rattle.pmem_pages.specs.Node.{links_of}
use Rattle.pmem_pages.specs.Shape.{Entry, entries}
use Rattle.vos_levels.specs.Levels.{Hung}
use Rattle.vos_check_base.specs.vos_image.Steps.{Step, ◌>>=◌, give, rule}
use Rattle.vos_check_base.specs.vos_image.Content.{Content}
use Rattle.vos_check_base.specs.vos_image.Trees.{Fields, Kind, is_above, is_below, is_height, read_fields, stored_height}
use Rattle.vos_check_trees.specs.declared.level.Bounds.{Bounds}
use Rattle.vos_check_trees.specs.declared.level.Found.{Found}

-- a key has at most 64 bytes, where there is one
abbrev pub HasLength : Option TreeKey → Type 0
HasLength None = Unit {0}
HasLength (Some k) = k.len ≤ 64

pub record HaveLengths (b : Bounds) : Type 0 where
  pub low : HasLength b.low
  pub high : HasLength b.high

abbrev pub lies_between : Bounds → TreeKey → Bool
lies_between b k = is_above b.low k && is_below b.high k

-- the fields of a node of which this was found
abbrev pub fields_of : {M N V : Type 0} → (M → N) → Node → Found M V → Fields N V
fields_of named n v = record { node = n; name = named v.name; value = v.value }

pub record IsFound {M N V : Type 0} (named : M → N) (v : Found M V) (f : Fields N V) : Type 0 where
  pub links : v.links ≡ links_of f.node
  pub key : v.key ≡ f.node.key
  pub name : f.name ≡ named v.name
  pub value : f.value ≡ v.value

-- the fields of the node in a block, and its height against those that the nodes below it say; it is at most so high
unfoldable pub enter : {N V A : Type 0} → Kind N V A → Content → ℕ → ℕ → Option TreeKey → Option TreeKey → Step (Fields N V)
enter K c most b low high =
    read_fields K c b low high
    >>= λ f. rule (256 * b + 1) (not (most == 0) && is_height f.node.height (stored_height c f.node.left) (stored_height c f.node.right))
    >>= λ _. give f

-- the rows of things, entry by entry
abbrev pub rows_of : {A R : Type 0} → (ℕ → A → List R) → List Entry → List A → List R
rows_of rows [] xs = []
rows_of rows (e ∷ es) [] = []
rows_of rows (e ∷ es) (a ∷ xs) = rows e.block a ++ rows_of rows es xs

-- the rows of a tree are gathered behind others
pub record Gathers {A R : Type 0} (rows : ℕ → A → List R) (before after : List R) (t : Hung A) : Type 0 where
  pub paired : length (entries t.0) ≡ length t.1
  pub gathered : after ≡ before ++ rows_of rows (entries t.0) t.1
