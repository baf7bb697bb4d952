use Rattle.std.proofs.Common.{arith, ◌≤◌, ◌+◌}
use Rattle.pmem_tree_base.proofs.Turning.{joined_plain}
use Rattle.pmem_tree_base.proofs.join.join.Goals.{else-left-right-via-then-left-right+else-left-right-gt1, else-left-right-via-else-left-right, else-right-left-via-then-right-left+else-right-left-gt1, else-right-left-via-else-right-left}
use Rattle.pmem_tree_base.proofs.join.join.Goals as goal

pub returns-in_ok-stage_fork-clause-joins : goal.returns-in_ok-stage_fork-clause-joins
returns-in_ok-stage_fork-clause-joins g c told =
    let a : c.args.left.height ≤ c.args.right.height + 1 = elim c.else-left-right.branch [ else-left-right-via-then-left-right+else-left-right-gt1 w ↦ omega arith | else-left-right-via-else-left-right w ↦ omega arith ] in
    let b : c.args.right.height ≤ c.args.left.height + 1 = elim c.else-right-left.branch [ else-right-left-via-then-right-left+else-right-left-gt1 w ↦ omega arith | else-right-left-via-else-right-left w ↦ omega arith ] in
    joined_plain _ _ c.args.spot.now.kind c.args.spot.now.at c.args.spot.now.pair c.args.left c.args.right _ (c.in_ok-stage_fork.ensures.staged told) c.in_ok-stage_fork.ensures.root c.in_ok-stage_fork.ensures.height a b
