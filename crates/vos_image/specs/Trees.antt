-- A tree is read node by node, with what its values lead to.
use Rattle.std.specs.Prelude.{ℕ, zero, suc, Bool, true, false, ◌+◌, ◌*◌, ◌==◌, ◌&&◌, nat_le, max, [], ◌∷◌, ◌++◌, drop, slice_index, Option, Some, None, if◌then◌else◌}
use Rattle.byteorder.specs.Endian.{big_number}
use Rattle.pmem_pages.specs.declared.node.Node.{Node}
use Rattle.pmem_pages.specs.declared.node.TreeKey.{TreeKey}
use Rattle.pmem_pages.specs.declared.node.Value.{Value}
use Rattle.pmem_pages.specs.Node.{key_cmp, node_of}
use Rattle.pmem_pages.specs.Shape.{Fork, Leaf, chosen}
use Rattle.vos_entries.specs.vos_levels.Levels.{Hung}
use Rattle.vos_image.specs.Steps.{Step, ◌>>=◌, fail, give, rule, zeros}
use Rattle.vos_image.specs.Content.{Content, block, link}

-- How trees of a kind are read: which lengths their keys have, what a key says, what a value says, with the blocks that it leads
-- to, and the thing that stands in these blocks.
pub record Kind (N V A : Type 0) : Type 0 where
  pub kind : ℕ
  pub is_length : Content → ℕ → Bool
  pub name : Content → ℕ → TreeKey → Step N
  pub value : Content → ℕ → N → Value → Step V
  pub thing : Content → N → V → Step A

-- what the fields of a node say
pub record Fields (N V : Type 0) : Type 0 where
  pub node : Node
  pub name : N
  pub value : V

-- a key lies between two others, where there are such
abbrev pub is_above : Option TreeKey → TreeKey → Bool
is_above None k = true
is_above (Some low) k = chosen (key_cmp low k) true false false

abbrev pub is_below : Option TreeKey → TreeKey → Bool
is_below None k = true
is_below (Some high) k = chosen (key_cmp k high) true false false

-- the fields of a node by place: kind, length of the key, left, right, the key and zeros behind it, the value and zeros behind it
unfoldable pub read_fields : {N V A : Type 0} → Kind N V A → Content → ℕ → Option TreeKey → Option TreeKey → Step (Fields N V)
read_fields K c b low high =
    let at = 256 * b in
    let n = node_of K.kind (block c b) in
    rule at (slice_index (block c b) 0 == K.kind)
    >>= λ _. rule (at + 2) (K.is_length c (big_number 2 (drop 2 (block c b))))
    >>= λ _. link c (at + 4) n.left
    >>= λ _. link c (at + 8) n.right
    >>= λ _. rule (at + 12) (is_above low n.key && is_below high n.key)
    >>= λ _. K.name c (at + 12) n.key
    >>= λ name. zeros (at + 12 + n.key.len) (drop n.key.len n.key.bytes)
    >>= λ _. K.value c (at + 76) name n.value
    >>= λ value. zeros (at + 76 + n.value.len) (drop n.value.len n.value.bytes)
    >>= λ _. give (record { node = n; name = name; value = value })

-- the height that a node's block says, 0 where there is none
abbrev pub stored_height : Content → ℕ → ℕ
stored_height c b = if b == 0 then 0 else slice_index (block c b) 1

-- a height is one more than the greater of two that differ by at most one
abbrev pub is_height : ℕ → ℕ → ℕ → Bool
is_height h l r = (h == max l r + 1) && (nat_le l (r + 1) && nat_le r (l + 1))

-- The tree below a block whose keys lie between two others: the fields of the node there, its height against those that the nodes
-- below it say, the left tree, what its value leads to, the right tree. Heights fall on the way down.
abbrev pub read_below : {N V A : Type 0} → Kind N V A → Content → ℕ → ℕ → Option TreeKey → Option TreeKey → Step (Hung A)
read_below K c zero b low high = if b == 0 then give (Leaf, []) else (read_fields K c b low high >>= λ _. fail (256 * b + 1))
read_below K c (suc h) b low high =
    if b == 0 then give (Leaf, [])
    else (read_fields K c b low high
    >>= λ f. rule (256 * b + 1) (is_height f.node.height (stored_height c f.node.left) (stored_height c f.node.right))
    >>= λ _. read_below K c h f.node.left low (Some f.node.key)
    >>= λ l. K.thing c f.name f.value
    >>= λ a. read_below K c h f.node.right (Some f.node.key) high
    >>= λ r. give (Fork l.0 (record { block = b; key = f.node.key; value = f.node.value }) r.0, l.1 ++ a ∷ r.1))

-- the tree below a root
unfoldable pub read_tree : {N V A : Type 0} → Kind N V A → Content → ℕ → Step (Hung A)
read_tree K c b = read_below K c (stored_height c b) b None None
