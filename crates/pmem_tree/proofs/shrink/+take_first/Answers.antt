use Rattle.std.proofs.Common.{◌∙◌, sym, subst, arith}
use Rattle.pmem_pages.specs.Blocks.{Blocks}
use Rattle.pmem_tree_base.specs.Nodes.{StandsAt}
use Rattle.pmem_tree.proofs.Removing.{take_node, take_deep, take_sub, take_goes, take_holds, take_stays, takes_left}
use Rattle.pmem_tree.proofs.shrink.+take_first.Goals as goal

pub returns-then-depth-eq0-clause-refused : goal.returns-then-depth-eq0-clause-refused
returns-then-depth-eq0-clause-refused g t c told _ = absurd (take_deep _ c.args.kind c.args.at c.args.depth (c.requires.tree told) c.requires.inner c.if-depth-eq0.true)

pub read_at-requires : goal.read_at-requires
read_at-requires g t c told = take_node _ c.args.kind c.args.at c.args.depth (c.requires.tree told) c.requires.inner

pub sub_at-requires : goal.sub_at-requires
sub_at-requires g t c told = take_sub _ c.args.kind c.args.at c.args.depth c.in_ok-node.node c.pair_in-pair.result c.requires.inner (c.in_ok-node.ensures.node told) c.pair_in-pair.ensures _ (c.read_at.ensures.kept told) (c.requires.tree told)

pub take_first-requires : goal.take_first-requires
take_first-requires g t c κs within = (omega arith, (within.0, (within.1, (λ told. take_goes _ c.args.kind c.args.at c.args.depth c.in_ok-node.node c.pair_in-pair.result c.requires.inner (c.in_ok-node.ensures.node told) c.pair_in-pair.ensures _ (c.sub_at.ensures.kept told ∙ c.read_at.ensures.kept told) (c.requires.tree told), c.if-node-eq0.false))))

pub rejoin-requires-clause-held : goal.rejoin-requires-clause-held
rejoin-requires-clause-held g t c told = take_holds _ c.args.kind c.args.at c.args.depth c.in_ok-node.node c.pair_in-pair.result c.requires.inner (c.in_ok-node.ensures.node told) c.pair_in-pair.ensures c.in_ok-right.right (λ s h. c.in_ok-right.ensures.sub told s (subst (λ (z : Blocks). StandsAt z c.args.kind c.in_ok-node.node.right s) (sym (c.read_at.ensures.kept told)) h)) _ _ c.in_ok-first.first (c.sub_at.ensures.kept told ∙ c.read_at.ensures.kept told) (c.in_ok-first.ensures.taken told) (c.requires.tree told)

pub rejoin-requires-clause-stands : goal.rejoin-requires-clause-stands
rejoin-requires-clause-stands g t c told = take_stays _ c.args.kind c.args.at c.args.depth c.in_ok-node.node c.pair_in-pair.result c.requires.inner (c.in_ok-node.ensures.node told) c.pair_in-pair.ensures c.in_ok-right.right (λ s h. c.in_ok-right.ensures.sub told s (subst (λ (z : Blocks). StandsAt z c.args.kind c.in_ok-node.node.right s) (sym (c.read_at.ensures.kept told)) h)) _ _ c.in_ok-first.first (c.sub_at.ensures.kept told ∙ c.read_at.ensures.kept told) (c.in_ok-first.ensures.taken told) (c.requires.tree told)

pub returns-clause-taken : goal.returns-clause-taken
returns-clause-taken g t c told = takes_left _ c.args.kind c.args.at c.args.depth c.in_ok-node.node c.pair_in-pair.result c.requires.inner (c.in_ok-node.ensures.node told) c.pair_in-pair.ensures c.in_ok-right.right (λ s h. c.in_ok-right.ensures.sub told s (subst (λ (z : Blocks). StandsAt z c.args.kind c.in_ok-node.node.right s) (sym (c.read_at.ensures.kept told)) h)) _ _ c.in_ok-first.first (c.sub_at.ensures.kept told ∙ c.read_at.ensures.kept told) (c.in_ok-first.ensures.taken told) _ c.in_ok-rest.rest (c.in_ok-rest.ensures.joins told)
