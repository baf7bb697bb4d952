use Rattle.std.proofs.Common.{sym, subst}
use Rattle.pmem_pages.specs.Blocks.{Blocks, IsTaken}
use Rattle.pmem_tree_base.proofs.Staged.{taken_after}
use Rattle.pmem_tree_base.proofs.Held.{node_taken}
use Rattle.pmem_tree_base.proofs.TurningLeft.{at_left, top_left, inner_left, turned_twice_left, few_left, few_left_1, few_left_2}
use Rattle.pmem_tree_base.proofs.join.turn_twice_left.Goals as goal

pub open_node-requires : goal.open_node-requires
open_node-requires g c told = inner_left _ c.args.spot.now.kind c.args.spot.now.at c.args.spot.now.pair c.args.left c.args.top c.args.node.now c.args.node.now (c.requires.leans told) c.requires.inner

pub stage_fork-requires : goal.stage_fork-requires
stage_fork-requires g c told = subst (λ (m : Blocks). IsTaken m c.args.spot.now.at) (sym (c.open_node.ensures.kept told)) (at_left _ c.args.spot.now.kind c.args.spot.now.at c.args.spot.now.pair c.args.left c.args.top c.args.node.now (c.requires.leans told))

pub stage_fork-requires-2 : goal.stage_fork-requires-2
stage_fork-requires-2 g c told = taken_after _ _ _ _ c.args.top (c.in_ok-first.ensures.staged told) (subst (λ (m : Blocks). IsTaken m c.args.top) (sym (c.open_node.ensures.kept told)) (top_left _ c.args.spot.now.kind c.args.spot.now.at c.args.spot.now.pair c.args.left c.args.top c.args.node.now (c.requires.leans told)))

pub stage_fork-requires-3 : goal.stage_fork-requires-3
stage_fork-requires-3 g c told = taken_after _ _ _ _ c.args.node.now.left.root (c.in_ok-second.ensures.staged told) (taken_after _ _ _ _ c.args.node.now.left.root (c.in_ok-first.ensures.staged told) (subst (λ (m : Blocks). IsTaken m c.args.node.now.left.root) (sym (c.open_node.ensures.kept told)) (node_taken _ c.args.spot.now.kind c.args.node.now.left.root (inner_left _ c.args.spot.now.kind c.args.spot.now.at c.args.spot.now.pair c.args.left c.args.top c.args.node.now c.args.node.now (c.requires.leans told) c.requires.inner))))

pub returns-clause-joins : goal.returns-clause-joins
returns-clause-joins g c told =
    let same = c.open_node.ensures.kept told in
    let e1 = rw same at (c.in_ok-first.ensures.staged told) in
    turned_twice_left _ c.args.spot.now.kind c.args.spot.now.at c.args.spot.now.pair c.args.left c.args.top c.args.node.now c.in_ok-middle.middle _ _ _ c.in_ok-first.first c.in_ok-second.second c.in_ok-stage_fork.field-0 (c.in_ok-middle.ensures.opens told) e1 c.in_ok-first.ensures.root c.in_ok-first.ensures.height (c.in_ok-second.ensures.staged told) c.in_ok-second.ensures.root c.in_ok-second.ensures.height (c.in_ok-stage_fork.ensures.staged told) c.in_ok-stage_fork.ensures.root c.in_ok-stage_fork.ensures.height c.requires.inner

pub returns-in_err-first-clause-refused : goal.returns-in_err-first-clause-refused
returns-in_err-first-clause-refused g c told _ =
    rw (← c.open_node.ensures.budget) (few_left_1 _ c.args.spot.now.kind c.args.spot.now.at c.args.spot.now.pair c.args.left c.args.top c.args.node.now c.in_ok-middle.middle (c.requires.leans told) c.requires.inner (c.in_ok-middle.ensures.opens told) (g.P.Pages.budget c.open_node.new.pages) c.in_err-first.ensures.refused)

pub returns-in_err-second-clause-refused : goal.returns-in_err-second-clause-refused
returns-in_err-second-clause-refused g c told _ =
    rw (← c.open_node.ensures.budget) (few_left_2 _ c.args.spot.now.kind c.args.spot.now.at c.args.spot.now.pair c.args.left c.args.top c.args.node.now c.in_ok-middle.middle (c.requires.leans told) c.requires.inner (c.in_ok-middle.ensures.opens told) (g.P.Pages.budget c.open_node.new.pages) _ c.stage_fork.ensures.spent c.in_err-second.ensures.refused)

pub returns-in_err-stage_fork-clause-refused : goal.returns-in_err-stage_fork-clause-refused
returns-in_err-stage_fork-clause-refused g c told _ =
    rw (← c.open_node.ensures.budget) (few_left _ c.args.spot.now.kind c.args.spot.now.at c.args.spot.now.pair c.args.left c.args.top c.args.node.now c.in_ok-middle.middle (c.requires.leans told) c.requires.inner (c.in_ok-middle.ensures.opens told) c.in_ok-first.first.height c.in_ok-second.second.height (g.P.Pages.budget c.open_node.new.pages) _ _ c.in_ok-first.ensures.height c.in_ok-second.ensures.height c.stage_fork.ensures.spent c.stage_fork-2.ensures.spent c.in_err-stage_fork.ensures.refused)
