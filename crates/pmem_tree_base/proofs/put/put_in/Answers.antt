use Rattle.std.proofs.Common.{◌≡◌, ◌∙◌, ℕ, Some, ap, sym}
use Rattle.pmem_pages.specs.Blocks.{Blocks, put}
use Rattle.pmem_pages.specs.declared.node.Node.{Node}
use Rattle.pmem_pages.specs.declared.node.Value.{Value}
use Rattle.pmem_pages.specs.Node.{node_bytes, node_of}
use Rattle.pmem_tree_base.specs.Nodes.{valued_node}
use Rattle.pmem_tree_base.proofs.Staged.{put_same}
use Rattle.pmem_tree_base.proofs.put.put_in.Goals as goal

-- with the value that it has, a node stands as it would be staged
as_staged : (m : Blocks) (kind at : ℕ) (n : Node) (v : Value) → m at ≡ Some (node_bytes kind n) → n.value ≡ v → m ≡ put m at (Some (node_bytes kind (valued_node n v)))
as_staged m kind at n v stands value = sym (put_same m at _ (stands ∙ ap (λ (w : Value). Some (node_bytes kind (valued_node n w))) value))

pub returns-then-is_same-clause-staged : goal.returns-then-is_same-clause-staged
returns-then-is_same-clause-staged g c told = as_staged _ c.args.kind c.args.at (node_of c.args.kind c.args.block.now) c.args.value.now (c.requires.stands told) (ap (λ (n : Node). n.value) (sym c.read_node-node.ensures.node) ∙ c.is_same.ensures.0 c.if-is_same.true)
