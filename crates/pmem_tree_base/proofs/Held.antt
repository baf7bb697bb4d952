-- A node that was read.
use Rattle.std.proofs.Common.{◌≡◌, ◌≢◌, ℕ, List, Some, sym, ap, ◌∙◌}
use Rattle.pmem_pages.specs.Blocks.{Blocks, IsTaken}
use Rattle.pmem_pages.specs.declared.node.Node.{Node}
use Rattle.pmem_pages.specs.declared.node.Pair.{Pair}
use Rattle.pmem_pages.specs.Node.{node_bytes, node_of}
use Rattle.pmem_pages.specs.Shape.{Entry, Shape, Leaf, Fork, root_of, Stands, node_at}
use Rattle.pmem_pages.proofs.Shapes.{read_again}
use Rattle.pmem_tree_base.specs.Nodes.{SomeNode, IsNodeAt, entry_of}

pub some_node : (m : Blocks) (kind at : ℕ) (t : Shape) → Stands m kind t → at ≡ root_of t → at ≢ 0 → SomeNode m kind at
some_node m kind at Leaf s e ne = absurd (ne e)
some_node m kind at (Fork l e r) s a ne = (l, e, r, record { at_is = a; stands = s })

pub node_taken : (m : Blocks) (kind at : ℕ) → SomeNode m kind at → IsTaken m at
node_taken m kind at w = record { bytes = _; holds = ap m w.3.at_is ∙ w.3.stands.0.block }

pub node_read : (m : Blocks) (kind at : ℕ) (bytes : List ℕ) (n : Node) → m at ≡ Some bytes → n ≡ node_of kind bytes → IsNodeAt m kind at n
node_read m kind at bytes n b is l e r h = is ∙ read_again m kind bytes l e r h.stands (ap m (sym h.at_is) ∙ b)

-- a node's entry, as the code holds it
pub entry_held : (at : ℕ) (p : Pair) (node : Node) (l : Shape) (e : Entry) (r : Shape) → at ≡ e.block → node ≡ node_at l e r → p ≡ record { key = node.key; value = node.value } → e ≡ entry_of at p
entry_held at p node l e r a is h =
    let k : p ≡ record { key = e.key; value = e.value } = h ∙ ap (λ (n : Node). record { key = n.key; value = n.value }) is in
    λ i. record { block = sym a i; key = sym (ap (λ (z : Pair). z.key) k) i; value = sym (ap (λ (z : Pair). z.value) k) i }

-- the bytes of a node's block are those of the node that they say
pub bytes_read : (m : Blocks) (kind at : ℕ) (bytes : List ℕ) → SomeNode m kind at → m at ≡ Some bytes → bytes ≡ node_bytes kind (node_of kind bytes)
bytes_read m kind at bytes w b =
    let h = w.3 in
    let there : m w.1.block ≡ Some bytes = ap m (sym h.at_is) ∙ b in
    let same : bytes ≡ node_bytes kind (node_at w.0 w.1 w.2) = cc (h.stands.0.block, there) in
    same ∙ ap (node_bytes kind) (sym (read_again m kind bytes w.0 w.1 w.2 h.stands there))
