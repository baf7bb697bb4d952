use Rattle.pmem_tree_base.proofs.Staged.{taken_after}
use Rattle.pmem_tree_base.proofs.Turning.{at_err, if_ok}
use Rattle.pmem_tree_base.proofs.TurningLeft.{at_left, top_left, turned_left, low_left, first_left}
use Rattle.pmem_tree_base.proofs.join.turn_left.Goals as goal

pub stage_fork-requires : goal.stage_fork-requires
stage_fork-requires g c told = at_left _ c.args.spot.now.kind c.args.spot.now.at c.args.spot.now.pair c.args.left c.args.top c.args.node.now (c.requires.leans told)

pub stage_fork-requires-2 : goal.stage_fork-requires-2
stage_fork-requires-2 g c told = taken_after _ _ _ _ c.args.top (c.in_ok-low.ensures.staged told) (top_left _ c.args.spot.now.kind c.args.spot.now.at c.args.spot.now.pair c.args.left c.args.top c.args.node.now (c.requires.leans told))

pub returns-in_err-low-clause-refused : goal.returns-in_err-low-clause-refused
returns-in_err-low-clause-refused g c told _ =
    first_left _ c.args.spot.now.kind c.args.spot.now.at c.args.spot.now.pair c.args.left c.args.top c.args.node.now (c.requires.leans told) (g.P.Pages.budget c.args.pages.now) c.in_err-low.ensures.refused

pub returns-clause-joins : goal.returns-clause-joins
returns-clause-joins g c =
    if_ok c.stage_fork-2.result _ _ _ _ c.stage_fork-2.ensures.staged c.stage_fork-2.ensures.root c.stage_fork-2.ensures.height
    (λ s e2 r2 h2 told. turned_left _ c.args.spot.now.kind c.args.spot.now.at c.args.spot.now.pair c.args.left c.args.top c.args.node.now _ _ c.in_ok-low.low s (c.in_ok-low.ensures.staged told) c.in_ok-low.ensures.root c.in_ok-low.ensures.height (e2 told) r2 h2 c.requires.outer)

pub returns-clause-refused : goal.returns-clause-refused
returns-clause-refused g c told e =
    low_left _ c.args.spot.now.kind c.args.spot.now.at c.args.spot.now.pair c.args.left c.args.top c.args.node.now (c.requires.leans told) c.in_ok-low.low.height _ _ c.in_ok-low.ensures.height c.stage_fork.ensures.spent (at_err c.stage_fork-2.result _ c.stage_fork-2.ensures.refused e)
