-- A node of a tree in its block of 256 bytes, and the order of keys.
use Rattle.std.specs.Prelude.{◌≡◌, ◌≤◌, ◌<◌, ◌^◌, min, ℕ, List, [], ◌∷◌, ◌++◌, length, take, drop, slice_index, if◌then◌else◌, ◌==◌}
use Rattle.std.specs.Ordering.{nat_cmp}
use Rattle.std.specs.declared.cmp.Ordering.{Ordering}
use Rattle.std.specs.Cmp.Lexicographic.{slice_cmp}
use Rattle.byteorder.specs.Endian.{big_bytes, big_number}
use Rattle.pmem_pages.specs.declared.node.TreeKey.{TreeKey}
use Rattle.pmem_pages.specs.declared.node.Value.{Value}
use Rattle.pmem_pages.specs.declared.node.Node.{Node}
use Rattle.pmem_pages.specs.declared.node.Links.{Links}

-- the bytes of a key, by which keys are ordered
abbrev pub key_text : TreeKey → List ℕ
key_text k = take k.len k.bytes

unfoldable pub key_cmp : TreeKey → TreeKey → Ordering
key_cmp a b = slice_cmp nat_cmp (key_text a) (key_text b)

-- there are seven kinds of trees
pub record IsKind (kind : ℕ) : Type 0 where
  pub least : 1 ≤ kind
  pub most : kind ≤ 7

-- how many bytes the values of a kind have
abbrev pub value_len : ℕ → ℕ
value_len kind = if kind == 1 then 8 else (if kind == 2 then 8 else (if kind == 3 then 12 else (if kind == 4 then 9 else (if kind == 7 then 30 else 14))))

-- from a place on, all bytes are zero
abbrev pub ZeroFrom : ℕ → List ℕ → Type 0
ZeroFrom at bytes = (i : ℕ) → at ≤ i → slice_index bytes i ≡ 0

-- at most 64 bytes, and zeros behind them
pub record IsKey (k : TreeKey) : Type 0 where
  pub fits : k.len ≤ 64
  pub room : length k.bytes ≡ 64
  pub rest : ZeroFrom k.len k.bytes

-- as many bytes as the kind says, and zeros behind them
pub record IsValue (kind : ℕ) (v : Value) : Type 0 where
  pub fits : v.len ≡ value_len kind
  pub room : length v.bytes ≡ 180
  pub rest : ZeroFrom v.len v.bytes

-- what a block of the kind may hold
pub record IsNode (kind : ℕ) (n : Node) : Type 0 where
  pub left : n.left < 2 ^ 32
  pub right : n.right < 2 ^ 32
  pub key : IsKey n.key
  pub value : IsValue kind n.value

-- a node's block: kind, height, length of the key, left, right, key, value
unfoldable pub node_bytes : ℕ → Node → List ℕ
node_bytes kind n = (kind ∷ n.height ∷ []) ++ (big_bytes 2 n.key.len ++ (big_bytes 4 n.left ++ (big_bytes 4 n.right ++ (n.key.bytes ++ n.value.bytes))))

-- the node that a block's bytes stand for, whatever they are
unfoldable pub node_of : ℕ → List ℕ → Node
node_of kind bs = record {
  height = slice_index bs 1;
  left = big_number 4 (drop 4 bs);
  right = big_number 4 (drop 8 bs);
  key = record { len = min (big_number 2 (drop 2 bs)) 64; bytes = take 64 (drop 12 bs) };
  value = record { len = value_len kind; bytes = take 180 (drop 76 bs) };
}

-- what a node says besides its pair, and a node that says that of itself
abbrev pub links_of : Node → Links
links_of n = record { height = n.height; left = n.left; right = n.right }

abbrev pub with_links : Node → Links → Node
with_links n l = record { height = l.height; left = l.left; right = l.right; key = n.key; value = n.value }

-- the bytes of a block that names its kind, and a length that a key may have
pub record IsNodeBlock (kind : ℕ) (bs : List ℕ) : Type 0 where
  pub room : length bs ≡ 256
  pub are_bytes : (i : ℕ) → slice_index bs i < 256
  pub kind_is : slice_index bs 0 ≡ kind
  pub key_fits : big_number 2 (drop 2 bs) ≤ 64
