use Rattle.std.proofs.Common.{◌≡◌, ◌∙◌, Some, sym, subst, arith}
use Rattle.std.proofs.lemmas.Result.{on_ok_weaker}
use Rattle.pmem_pages.specs.Blocks.{Blocks}
use Rattle.pmem_pages.specs.Node.{node_bytes, node_of}
use Rattle.pmem_tree_base.proofs.Putting.{put_node, put_goes_left, put_goes_right, puts_from_left, puts_from_right, puts_from_here, put_stands_there, same_from_left, same_from_right, same_from_here}
use Rattle.pmem_tree_base.proofs.put.+put_at.Goals as goal

pub read_in-requires : goal.read_in-requires
read_in-requires g t c told = put_node _ c.args.kind c.args.at c.args.depth c.args.pair.now (c.requires.tree told) c.if-at-eq0.false

pub put_in-requires : goal.put_in-requires
put_in-requires g t c = record { stands = λ told. subst (λ (m : Blocks). m c.args.at ≡ Some (node_bytes c.args.kind (node_of c.args.kind c.read_in.new.to))) (sym (c.read_in.ensures.kept told)) (put_stands_there _ c.args.kind c.args.at c.args.depth c.args.pair.now (node_of c.args.kind c.read_in.new.to) c.if-at-eq0.false (c.in_ok-node.ensures.node told) (c.requires.tree told)) }

pub put_at-requires : goal.put_at-requires
put_at-requires g t c κs within = (omega arith, (within.0, (within.1, (λ told. rw c.in_ok-node.ensures.links (put_goes_left _ c.args.kind c.args.at c.args.depth c.args.pair.now (node_of c.args.kind c.read_in.new.to) c.if-at-eq0.false (c.in_ok-node.ensures.node told) (sym (c.compare_in.ensures c.args.kind) ∙ c.in-Less.is) _ (c.read_in.ensures.kept told) (c.requires.tree told)), c.requires.key))))

pub put_at-requires-in-Greater : goal.put_at-requires-in-Greater
put_at-requires-in-Greater g t c κs within = (omega arith, (within.0, (within.1, (λ told. rw c.in_ok-node.ensures.links (put_goes_right _ c.args.kind c.args.at c.args.depth c.args.pair.now (node_of c.args.kind c.read_in.new.to) c.if-at-eq0.false (c.in_ok-node.ensures.node told) (sym (c.compare_in.ensures c.args.kind) ∙ c.in-Greater.is) _ (c.read_in.ensures.kept told) (c.requires.tree told)), c.requires.key))))

pub returns-in-Less-clause-put : goal.returns-in-Less-clause-put
returns-in-Less-clause-put g t c = on_ok_weaker c.put_at.result (λ h told. puts_from_left _ c.args.kind c.args.at c.args.depth c.args.pair.now (node_of c.args.kind c.read_in.new.to) c.if-at-eq0.false (c.in_ok-node.ensures.node told) (sym (c.compare_in.ensures c.args.kind) ∙ c.in-Less.is) _ (c.read_in.ensures.kept told) _ (rw c.in_ok-node.ensures.links at (h told))) c.put_at.ensures.put

pub returns-in-Greater-clause-put : goal.returns-in-Greater-clause-put
returns-in-Greater-clause-put g t c = on_ok_weaker c.put_at-in-Greater.result (λ h told. puts_from_right _ c.args.kind c.args.at c.args.depth c.args.pair.now (node_of c.args.kind c.read_in.new.to) c.if-at-eq0.false (c.in_ok-node.ensures.node told) (sym (c.compare_in.ensures c.args.kind) ∙ c.in-Greater.is) _ (c.read_in.ensures.kept told) _ (rw c.in_ok-node.ensures.links at (h told))) c.put_at-in-Greater.ensures.put

pub returns-in_ok-put_in-in-Equal-clause-put : goal.returns-in_ok-put_in-in-Equal-clause-put
returns-in_ok-put_in-in-Equal-clause-put g t c told = puts_from_here _ c.args.kind c.args.at c.args.depth c.args.pair.now (node_of c.args.kind c.read_in.new.to) c.if-at-eq0.false (c.in_ok-node.ensures.node told) (sym (c.compare_in.ensures c.args.kind) ∙ c.in-Equal.is) _ _ (c.read_in.ensures.kept told) (c.in_ok-put_in-in-Equal.ensures.staged told)

pub returns-in_ok-put_in-in-Equal-clause-idle : goal.returns-in_ok-put_in-in-Equal-clause-idle
returns-in_ok-put_in-in-Equal-clause-idle g t c told = same_from_here _ c.args.kind c.args.at c.args.depth c.args.pair.now (node_of c.args.kind c.read_in.new.to) c.if-at-eq0.false (c.in_ok-node.ensures.node told) (sym (c.compare_in.ensures c.args.kind) ∙ c.in-Equal.is) (λ v. let w = c.put_in.ensures.idle v in (w.0 ∙ c.read_in.ensures.kept told, w.1 ∙ c.read_in.ensures.budget))

pub returns-in_err-put_in-in-Equal-clause-idle : goal.returns-in_err-put_in-in-Equal-clause-idle
returns-in_err-put_in-in-Equal-clause-idle g t c told = same_from_here _ c.args.kind c.args.at c.args.depth c.args.pair.now (node_of c.args.kind c.read_in.new.to) c.if-at-eq0.false (c.in_ok-node.ensures.node told) (sym (c.compare_in.ensures c.args.kind) ∙ c.in-Equal.is) (λ v. let w = c.put_in.ensures.idle v in (w.0 ∙ c.read_in.ensures.kept told, w.1 ∙ c.read_in.ensures.budget))

pub returns-in-Less-clause-idle : goal.returns-in-Less-clause-idle
returns-in-Less-clause-idle g t c told = same_from_left _ c.args.kind c.args.at c.args.depth c.args.pair.now (node_of c.args.kind c.read_in.new.to) c.if-at-eq0.false (c.in_ok-node.ensures.node told) (sym (c.compare_in.ensures c.args.kind) ∙ c.in-Less.is) _ (c.read_in.ensures.kept told) (λ w. (w.0 ∙ c.read_in.ensures.kept told, w.1 ∙ c.read_in.ensures.budget)) (rw c.in_ok-node.ensures.links at (c.put_at.ensures.idle told))

pub returns-in-Greater-clause-idle : goal.returns-in-Greater-clause-idle
returns-in-Greater-clause-idle g t c told = same_from_right _ c.args.kind c.args.at c.args.depth c.args.pair.now (node_of c.args.kind c.read_in.new.to) c.if-at-eq0.false (c.in_ok-node.ensures.node told) (sym (c.compare_in.ensures c.args.kind) ∙ c.in-Greater.is) _ (c.read_in.ensures.kept told) (λ w. (w.0 ∙ c.read_in.ensures.kept told, w.1 ∙ c.read_in.ensures.budget)) (rw c.in_ok-node.ensures.links at (c.put_at-in-Greater.ensures.idle told))
