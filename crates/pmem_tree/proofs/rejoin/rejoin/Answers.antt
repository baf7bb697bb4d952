use Rattle.std.proofs.Common.{refl}
use Rattle.pmem_tree_base.proofs.Turning.{joined_plain}
use Rattle.pmem_tree.proofs.Rejoining.{as_staged}
use Rattle.pmem_tree.proofs.rejoin.rejoin.Goals as goal

pub returns-then-fits-clause-joins : goal.returns-then-fits-clause-joins
returns-then-fits-clause-joins g c told =
    let f = c.fits.ensures.0 c.if-fits.true in
    joined_plain _ _ c.args.spot.now.kind c.args.spot.now.at c.args.spot.now.pair c.args.left c.args.right _ (as_staged _ c.args.spot.now.kind c.args.spot.now.at c.args.node.now c.args.spot.now.pair c.args.left c.args.right f c.requires.pair (c.requires.stands told)) refl f.1.1.0 f.1.1.1.0 f.1.1.1.1
