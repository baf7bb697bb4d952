use Rattle.std.proofs.lemmas.Result.{IfOk-weaker}
use Rattle.pmem_tree_base.proofs.TurningLeft.{higher_node_left, leans_left, joins_left}
use Rattle.pmem_tree_base.proofs.join.lean_left.Goals as goal

pub open_node-requires : goal.open_node-requires
open_node-requires g c told = higher_node_left _ c.args.spot.now.kind c.args.spot.now.at c.args.spot.now.pair c.args.left c.args.right (record { pair = c.args.spot.now.pair; left = c.args.left; right = c.args.right }) (c.requires.held told) c.requires.two

pub turn_left-requires-clause-leans : goal.turn_left-requires-clause-leans
turn_left-requires-clause-leans g c told = leans_left _ c.args.spot.now.kind c.args.spot.now.at c.args.spot.now.pair c.args.left c.args.right c.in_ok-node.node _ (c.open_node.ensures.kept told) (c.requires.held told) c.requires.two (c.in_ok-node.ensures.opens told)

pub turn_twice_left-requires-clause-leans : goal.turn_twice_left-requires-clause-leans
turn_twice_left-requires-clause-leans g c told = leans_left _ c.args.spot.now.kind c.args.spot.now.at c.args.spot.now.pair c.args.left c.args.right c.in_ok-node.node _ (c.open_node.ensures.kept told) (c.requires.held told) c.requires.two (c.in_ok-node.ensures.opens told)

pub returns-else-node-clause-joins : goal.returns-else-node-clause-joins
returns-else-node-clause-joins g c =
    IfOk-weaker c.turn_twice_left.result _ _ (λ s h told. joins_left _ c.args.spot.now.kind c.args.spot.now.at c.args.spot.now.pair c.args.left c.args.right c.in_ok-node.node _ _ s (c.open_node.ensures.kept told) c.requires.two (c.in_ok-node.ensures.opens told) (h told)) c.turn_twice_left.ensures.joins
