use Rattle.std.proofs.Common.{◌∙◌, sym, subst, arith}
use Rattle.pmem_pages.specs.Blocks.{Blocks}
use Rattle.pmem_tree_base.specs.Nodes.{StandsAt}
use Rattle.pmem_tree.proofs.Removing.{shrink_node, shrink_sub_left, shrink_sub_right, shrink_drop, shrinks_here, shrink_goes_left, shrink_goes_right, shrink_holds_left, shrink_holds_right, shrink_stays_left, shrink_stays_right, shrinks_from_left, shrinks_from_right}
use Rattle.pmem_tree.proofs.shrink.+remove_at.Goals as goal

pub read_at-requires : goal.read_at-requires
read_at-requires g t c told = shrink_node _ c.args.kind c.args.at c.args.depth c.args.key.now (c.requires.tree told) c.if-at-eq0.false

pub drop_node-requires-clause-tree : goal.drop_node-requires-clause-tree
drop_node-requires-clause-tree g t c told = shrink_drop _ c.args.kind c.args.at c.args.depth c.args.key.now c.in_ok-node.node c.pair_in-pair.result c.if-at-eq0.false (c.in_ok-node.ensures.node told) c.pair_in-pair.ensures (sym c.compare.ensures ∙ c.in-Equal.is) _ (c.read_at.ensures.kept told) (c.requires.tree told)

pub returns-in_ok-rest-in-Equal-clause-shrunk : goal.returns-in_ok-rest-in-Equal-clause-shrunk
returns-in_ok-rest-in-Equal-clause-shrunk g t c told = shrinks_here _ c.args.kind c.args.at c.args.depth c.args.key.now c.in_ok-node.node c.pair_in-pair.result c.if-at-eq0.false (c.in_ok-node.ensures.node told) c.pair_in-pair.ensures (sym c.compare.ensures ∙ c.in-Equal.is) _ _ c.in_ok-rest-in-Equal.rest (c.read_at.ensures.kept told) (c.in_ok-rest-in-Equal.ensures.dropped told)

pub sub_at-requires : goal.sub_at-requires
sub_at-requires g t c told = shrink_sub_right _ c.args.kind c.args.at c.args.depth c.args.key.now c.in_ok-node.node c.pair_in-pair.result c.if-at-eq0.false (c.in_ok-node.ensures.node told) c.pair_in-pair.ensures _ (c.read_at.ensures.kept told) (c.requires.tree told)

pub remove_at-requires : goal.remove_at-requires
remove_at-requires g t c κs within = (omega arith, (within.0, (within.1, (λ told. shrink_goes_left _ c.args.kind c.args.at c.args.depth c.args.key.now c.in_ok-node.node c.pair_in-pair.result c.if-at-eq0.false (c.in_ok-node.ensures.node told) c.pair_in-pair.ensures (sym c.compare.ensures ∙ c.in-Less.is) _ (c.sub_at.ensures.kept told ∙ c.read_at.ensures.kept told) (c.requires.tree told), c.requires.key))))

pub rejoin-requires-clause-held : goal.rejoin-requires-clause-held
rejoin-requires-clause-held g t c told = shrink_holds_left _ c.args.kind c.args.at c.args.depth c.args.key.now c.in_ok-node.node c.pair_in-pair.result c.if-at-eq0.false (c.in_ok-node.ensures.node told) c.pair_in-pair.ensures (sym c.compare.ensures ∙ c.in-Less.is) _ _ c.in_ok-cut-in-Less.cut c.in_ok-right-in-Less.right (c.sub_at.ensures.kept told ∙ c.read_at.ensures.kept told) (λ s h. c.in_ok-right-in-Less.ensures.sub told s (subst (λ (z : Blocks). StandsAt z c.args.kind c.in_ok-node.node.right s) (sym (c.read_at.ensures.kept told)) h)) (c.in_ok-cut-in-Less.ensures.shrunk told) (c.requires.tree told)

pub rejoin-requires-clause-stands : goal.rejoin-requires-clause-stands
rejoin-requires-clause-stands g t c told = shrink_stays_left _ c.args.kind c.args.at c.args.depth c.args.key.now c.in_ok-node.node c.pair_in-pair.result c.if-at-eq0.false (c.in_ok-node.ensures.node told) c.pair_in-pair.ensures (sym c.compare.ensures ∙ c.in-Less.is) _ _ c.in_ok-cut-in-Less.cut c.in_ok-right-in-Less.right (c.sub_at.ensures.kept told ∙ c.read_at.ensures.kept told) (λ s h. c.in_ok-right-in-Less.ensures.sub told s (subst (λ (z : Blocks). StandsAt z c.args.kind c.in_ok-node.node.right s) (sym (c.read_at.ensures.kept told)) h)) (c.in_ok-cut-in-Less.ensures.shrunk told) (c.requires.tree told)

pub returns-in_ok-rest-in-Less-clause-shrunk : goal.returns-in_ok-rest-in-Less-clause-shrunk
returns-in_ok-rest-in-Less-clause-shrunk g t c told = shrinks_from_left _ c.args.kind c.args.at c.args.depth c.args.key.now c.in_ok-node.node c.pair_in-pair.result c.if-at-eq0.false (c.in_ok-node.ensures.node told) c.pair_in-pair.ensures (sym c.compare.ensures ∙ c.in-Less.is) _ _ c.in_ok-cut-in-Less.cut c.in_ok-right-in-Less.right (c.sub_at.ensures.kept told ∙ c.read_at.ensures.kept told) (λ s h. c.in_ok-right-in-Less.ensures.sub told s (subst (λ (z : Blocks). StandsAt z c.args.kind c.in_ok-node.node.right s) (sym (c.read_at.ensures.kept told)) h)) (c.in_ok-cut-in-Less.ensures.shrunk told) _ c.in_ok-rest-in-Less.rest (c.in_ok-rest-in-Less.ensures.joins told)

pub sub_at-requires-in-Greater : goal.sub_at-requires-in-Greater
sub_at-requires-in-Greater g t c told = shrink_sub_left _ c.args.kind c.args.at c.args.depth c.args.key.now c.in_ok-node.node c.pair_in-pair.result c.if-at-eq0.false (c.in_ok-node.ensures.node told) c.pair_in-pair.ensures _ (c.read_at.ensures.kept told) (c.requires.tree told)

pub remove_at-requires-in-Greater : goal.remove_at-requires-in-Greater
remove_at-requires-in-Greater g t c κs within = (omega arith, (within.0, (within.1, (λ told. shrink_goes_right _ c.args.kind c.args.at c.args.depth c.args.key.now c.in_ok-node.node c.pair_in-pair.result c.if-at-eq0.false (c.in_ok-node.ensures.node told) c.pair_in-pair.ensures (sym c.compare.ensures ∙ c.in-Greater.is) _ (c.sub_at-in-Greater.ensures.kept told ∙ c.read_at.ensures.kept told) (c.requires.tree told), c.requires.key))))

pub rejoin-requires-in-Greater-clause-held : goal.rejoin-requires-in-Greater-clause-held
rejoin-requires-in-Greater-clause-held g t c told = shrink_holds_right _ c.args.kind c.args.at c.args.depth c.args.key.now c.in_ok-node.node c.pair_in-pair.result c.if-at-eq0.false (c.in_ok-node.ensures.node told) c.pair_in-pair.ensures (sym c.compare.ensures ∙ c.in-Greater.is) _ _ c.in_ok-cut-in-Greater.cut c.in_ok-left-in-Greater.left (c.sub_at-in-Greater.ensures.kept told ∙ c.read_at.ensures.kept told) (λ s h. c.in_ok-left-in-Greater.ensures.sub told s (subst (λ (z : Blocks). StandsAt z c.args.kind c.in_ok-node.node.left s) (sym (c.read_at.ensures.kept told)) h)) (c.in_ok-cut-in-Greater.ensures.shrunk told) (c.requires.tree told)

pub rejoin-requires-in-Greater-clause-stands : goal.rejoin-requires-in-Greater-clause-stands
rejoin-requires-in-Greater-clause-stands g t c told = shrink_stays_right _ c.args.kind c.args.at c.args.depth c.args.key.now c.in_ok-node.node c.pair_in-pair.result c.if-at-eq0.false (c.in_ok-node.ensures.node told) c.pair_in-pair.ensures (sym c.compare.ensures ∙ c.in-Greater.is) _ _ c.in_ok-cut-in-Greater.cut c.in_ok-left-in-Greater.left (c.sub_at-in-Greater.ensures.kept told ∙ c.read_at.ensures.kept told) (λ s h. c.in_ok-left-in-Greater.ensures.sub told s (subst (λ (z : Blocks). StandsAt z c.args.kind c.in_ok-node.node.left s) (sym (c.read_at.ensures.kept told)) h)) (c.in_ok-cut-in-Greater.ensures.shrunk told) (c.requires.tree told)

pub returns-in_ok-rest-in-Greater-clause-shrunk : goal.returns-in_ok-rest-in-Greater-clause-shrunk
returns-in_ok-rest-in-Greater-clause-shrunk g t c told = shrinks_from_right _ c.args.kind c.args.at c.args.depth c.args.key.now c.in_ok-node.node c.pair_in-pair.result c.if-at-eq0.false (c.in_ok-node.ensures.node told) c.pair_in-pair.ensures (sym c.compare.ensures ∙ c.in-Greater.is) _ _ c.in_ok-cut-in-Greater.cut c.in_ok-left-in-Greater.left (c.sub_at-in-Greater.ensures.kept told ∙ c.read_at.ensures.kept told) (λ s h. c.in_ok-left-in-Greater.ensures.sub told s (subst (λ (z : Blocks). StandsAt z c.args.kind c.in_ok-node.node.left s) (sym (c.read_at.ensures.kept told)) h)) (c.in_ok-cut-in-Greater.ensures.shrunk told) _ c.in_ok-rest-in-Greater.rest (c.in_ok-rest-in-Greater.ensures.joins told)
