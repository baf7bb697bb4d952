use Rattle.pmem_pages.proofs.Nodes.{node_again, node_back}
use Rattle.pmem_pages.proofs.codec.nodes_are_blocks.Goals as goal

pub returns-clause-again : goal.returns-clause-again
returns-clause-again c = node_again

pub returns-clause-back : goal.returns-clause-back
returns-clause-back c = node_back
