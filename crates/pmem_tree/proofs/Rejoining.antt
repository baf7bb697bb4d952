-- A node that stands is joined with its two trees again.
use Rattle.std.proofs.Common.{◌≡◌, ℕ, Some, refl, sym, ap, ◌∙◌}
use Rattle.pmem_pages.specs.Blocks.{Blocks, put}
use Rattle.pmem_pages.specs.declared.node.Node.{Node}
use Rattle.pmem_pages.specs.declared.node.Pair.{Pair}
use Rattle.pmem_pages.specs.Node.{node_bytes, links_of}
use Rattle.pmem_pages.specs.Shape.{Entry, Shape, root_of, height, node_at, NodeStands}
use Rattle.pmem_tree_base.specs.declared.read.Sub.{Sub}
use Rattle.pmem_tree_base.specs.Join.{JoinsHeld}
use Rattle.pmem_tree_base.specs.Nodes.{IsSub, entry_of, node_between}
use Rattle.pmem_tree_base.proofs.Staged.{put_same}
use Rattle.pmem_tree_base.proofs.Turning.{joined_plain}
use Rattle.pmem_tree.specs.Rejoin.{Fits}

-- the bytes of a node's block stay where that block does
pub still_there : (m n : Blocks) (kind at : ℕ) (node : Node) (l : Shape) (e : Entry) (r : Shape) → at ≡ e.block → node ≡ node_at l e r → NodeStands m kind l e r → n e.block ≡ m e.block → n at ≡ Some (node_bytes kind node)
still_there m n kind at node l e r a is s h = ap n a ∙ (h ∙ (s.block ∙ ap (λ (k : Node). Some (node_bytes kind k)) (sym is)))

-- where it is the one between them, it stands as it would be staged
pub as_staged : (m : Blocks) (kind at : ℕ) (node : Node) (p : Pair) (a b : Sub) → Fits (links_of node) a b → p ≡ record { key = node.key; value = node.value } → m at ≡ Some (node_bytes kind node) → m ≡ put m at (Some (node_bytes kind (node_between p a b)))
as_staged m kind at node p a b f h stands =
    let same : node ≡ node_between p a b = λ i. record { height = f.1.1.0 i; left = f.0 i; right = f.1.0 i; key = sym (ap (λ (z : Pair). z.key) h) i; value = sym (ap (λ (z : Pair). z.value) h) i } in
    sym (put_same m at _ (stands ∙ ap (λ (k : Node). Some (node_bytes kind k)) same))

-- what the code would hold of a tree
abbrev pub sub_itself : Shape → Sub
sub_itself t = record { root = root_of t; height = height t }

pub is_itself : (t : Shape) → IsSub (sub_itself t) t
is_itself t = record { root_is = refl; height_is = refl }

-- two trees and the node that goes between them are one tree as they stand
pub fits_joined : (m : Blocks) (kind at : ℕ) (node : Node) (p : Pair) (a b : Sub) → Fits (links_of node) a b → p ≡ record { key = node.key; value = node.value } → m at ≡ Some (node_bytes kind node) → JoinsHeld m m kind (entry_of at p) a b (record { root = at; height = node.height })
fits_joined m kind at node p a b f h stands = joined_plain m m kind at p a b _ (as_staged m kind at node p a b f h stands) refl f.1.1.0 f.1.1.1.0 f.1.1.1.1
