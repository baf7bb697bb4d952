use Rattle.std.proofs.lemmas.Result.{IfOk-weaker}
use Rattle.pmem_tree.proofs.Removing.{drop_sub_left, drop_sub_right, drop_take, drop_holds, drops_joined}
use Rattle.pmem_tree.proofs.shrink.drop_node.Goals as goal

pub sub_at-requires : goal.sub_at-requires
sub_at-requires g c told = drop_sub_left _ c.args.kind c.args.at c.args.depth c.args.node.now (c.requires.tree told)

pub sub_at-requires-then-node-eq0-2 : goal.sub_at-requires-then-node-eq0-2
sub_at-requires-then-node-eq0-2 g c told = drop_sub_right _ c.args.kind c.args.at c.args.depth c.args.node.now _ (c.sub_at.ensures.kept told) (c.requires.tree told)

pub take_first-requires-clause-tree : goal.take_first-requires-clause-tree
take_first-requires-clause-tree g c told = drop_take _ c.args.kind c.args.at c.args.depth c.args.node.now _ (c.sub_at.ensures.kept told) (c.requires.tree told)

pub join-requires : goal.join-requires
join-requires g c told = drop_holds _ c.args.kind c.args.at c.args.depth c.args.node.now _ _ c.in_ok-left.left c.in_ok-first.first (c.sub_at.ensures.kept told) (c.in_ok-left.ensures.sub told) (c.in_ok-first.ensures.taken told) (c.requires.tree told)

pub returns-clause-dropped : goal.returns-clause-dropped
returns-clause-dropped g c =
    IfOk-weaker c.join.result _ _ (λ s h told. drops_joined _ c.args.kind c.args.at c.args.depth c.args.node.now _ _ c.in_ok-left.left c.in_ok-first.first (c.sub_at.ensures.kept told) (c.in_ok-left.ensures.sub told) (c.in_ok-first.ensures.taken told) _ s (h told)) c.join.ensures.joins
