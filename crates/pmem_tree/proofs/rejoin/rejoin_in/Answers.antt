use Rattle.std.proofs.Common.{refl}
use Rattle.pmem_pages.specs.Node.{node_of}
use Rattle.pmem_tree_base.specs.Nodes.{pair_in}
use Rattle.pmem_tree_base.proofs.Turning.{joined_plain}
use Rattle.pmem_tree.proofs.Rejoining.{as_staged}
use Rattle.pmem_tree.proofs.rejoin.rejoin_in.Goals as goal

pub returns-then-fits-clause-joins : goal.returns-then-fits-clause-joins
returns-then-fits-clause-joins g c told =
    let f = c.fits.ensures.0 c.if-fits.true in
    let fit = rw (c.read_links-links.ensures c.args.kind) at f in
    joined_plain _ _ c.args.kind c.args.at (pair_in c.args.kind c.args.block.now) c.args.left c.args.right _ (as_staged _ c.args.kind c.args.at (node_of c.args.kind c.args.block.now) (pair_in c.args.kind c.args.block.now) c.args.left c.args.right fit refl (c.requires.stands told)) refl f.1.1.0 f.1.1.1.0 f.1.1.1.1

pub returns-then-is_near-clause-joins : goal.returns-then-is_near-clause-joins
returns-then-is_near-clause-joins g c told = let near = c.is_near.ensures.0 c.if-is_near.true in joined_plain _ _ c.args.kind c.args.at (pair_in c.args.kind c.args.block.now) c.args.left c.args.right _ (c.in_ok-stage_linked.ensures.staged told) c.in_ok-stage_linked.ensures.root c.in_ok-stage_linked.ensures.height near.0 near.1
