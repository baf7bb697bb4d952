use Rattle.std.proofs.Common.{refl}
use Rattle.pmem_tree_base.proofs.Held.{node_taken, node_read, bytes_read}
use Rattle.pmem_tree_base.proofs.read.read_in.Goals as goal

pub read_block-requires : goal.read_block-requires
read_block-requires g c = λ t. node_taken _ c.args.kind c.args.at (c.requires t)

pub returns-clause-node : goal.returns-clause-node
returns-clause-node g c = λ t. node_read _ c.args.kind c.args.at c.read_block.new.to _ (c.in_ok-read_block.ensures.bytes t) refl

pub returns-clause-bytes : goal.returns-clause-bytes
returns-clause-bytes g c = λ t. bytes_read _ c.args.kind c.args.at c.read_block.new.to (c.requires t) (c.in_ok-read_block.ensures.bytes t)
