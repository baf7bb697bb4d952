use Rattle.std.proofs.Common.{◌≡◌, ◌≤◌, ◌+◌, ◌∙◌, sym, Some, arith}
use Rattle.std.proofs.lemmas.Result.{IfOk-weaker}
use Rattle.pmem_pages.specs.Node.{node_of}
use Rattle.pmem_pages.specs.Shape.{height, entries, entry_at}
use Rattle.pmem_tree_base.proofs.Held.{some_node}
use Rattle.pmem_tree_base.specs.Find.{value_in, value_of}
use Rattle.pmem_tree_base.proofs.Finding.{goes_left, goes_right, from_left, from_right, from_here, value_left, value_right, value_here}
use Rattle.pmem_tree_base.proofs.find.+seek.Goals as goal

pub read_in-requires : goal.read_in-requires
read_in-requires g t c = λ told. let w = c.requires.tree told in some_node _ c.args.kind c.args.at w.0 w.1.stands w.1.root c.if-at-eq0.false

pub seek-requires : goal.seek-requires
seek-requires g t c κs within =
    (omega arith, (within.0, (within.1, (λ told. rw c.in_ok-node.ensures.links (goes_left _ c.args.kind c.args.at c.args.depth (node_of c.args.kind c.read_in.new.to) c.if-at-eq0.false (c.in_ok-node.ensures.node told) _ (c.read_in.ensures.kept told) (c.requires.tree told)), c.requires.key))))

pub seek-requires-in-Greater : goal.seek-requires-in-Greater
seek-requires-in-Greater g t c κs within =
    (omega arith, (within.0, (within.1, (λ told. rw c.in_ok-node.ensures.links (goes_right _ c.args.kind c.args.at c.args.depth (node_of c.args.kind c.read_in.new.to) c.if-at-eq0.false (c.in_ok-node.ensures.node told) _ (c.read_in.ensures.kept told) (c.requires.tree told)), c.requires.key))))

pub returns-in-Less-clause-found : goal.returns-in-Less-clause-found
returns-in-Less-clause-found g t c =
    IfOk-weaker c.seek.result _ _
    (λ v h told. from_left _ c.args.kind c.args.at c.args.depth (node_of c.args.kind c.read_in.new.to) c.if-at-eq0.false (c.in_ok-node.ensures.node told) _ (λ s. value_in v c.args.kind c.seek.new.block ≡ value_of (entry_at c.args.key.now (entries s))) (λ s. value_in v c.args.kind c.seek.new.block ≡ value_of (entry_at c.args.key.now (entries s))) (c.read_in.ensures.kept told) (rw c.in_ok-node.ensures.links at (h told)) (value_left c.args.key.now (node_of c.args.kind c.read_in.new.to) (value_in v c.args.kind c.seek.new.block) (sym (c.compare_in.ensures c.args.kind) ∙ c.in-Less.is)))
    c.seek.ensures.found

pub returns-in-Less-clause-steps : goal.returns-in-Less-clause-steps
returns-in-Less-clause-steps g t c told =
    from_left _ c.args.kind c.args.at c.args.depth (node_of c.args.kind c.read_in.new.to) c.if-at-eq0.false (c.in_ok-node.ensures.node told) _ (λ s. c.seek.new.steps ≤ c.read_in.new.steps + height s) (λ s. c.seek.new.steps ≤ c.args.steps.now + height s) (c.read_in.ensures.kept told) (rw c.in_ok-node.ensures.links at (c.seek.ensures.steps told)) (λ l e r rises is h. omega (arith, h, c.read_in.ensures.step))

pub returns-in-Greater-clause-found : goal.returns-in-Greater-clause-found
returns-in-Greater-clause-found g t c =
    IfOk-weaker c.seek-in-Greater.result _ _
    (λ v h told. from_right _ c.args.kind c.args.at c.args.depth (node_of c.args.kind c.read_in.new.to) c.if-at-eq0.false (c.in_ok-node.ensures.node told) _ (λ s. value_in v c.args.kind c.seek-in-Greater.new.block ≡ value_of (entry_at c.args.key.now (entries s))) (λ s. value_in v c.args.kind c.seek-in-Greater.new.block ≡ value_of (entry_at c.args.key.now (entries s))) (c.read_in.ensures.kept told) (rw c.in_ok-node.ensures.links at (h told)) (value_right c.args.key.now (node_of c.args.kind c.read_in.new.to) (value_in v c.args.kind c.seek-in-Greater.new.block) (sym (c.compare_in.ensures c.args.kind) ∙ c.in-Greater.is)))
    c.seek-in-Greater.ensures.found

pub returns-in-Greater-clause-steps : goal.returns-in-Greater-clause-steps
returns-in-Greater-clause-steps g t c told =
    from_right _ c.args.kind c.args.at c.args.depth (node_of c.args.kind c.read_in.new.to) c.if-at-eq0.false (c.in_ok-node.ensures.node told) _ (λ s. c.seek-in-Greater.new.steps ≤ c.read_in.new.steps + height s) (λ s. c.seek-in-Greater.new.steps ≤ c.args.steps.now + height s) (c.read_in.ensures.kept told) (rw c.in_ok-node.ensures.links at (c.seek-in-Greater.ensures.steps told)) (λ l e r rises is h. omega (arith, h, c.read_in.ensures.step))

pub returns-in-Equal-clause-found : goal.returns-in-Equal-clause-found
returns-in-Equal-clause-found g t c told =
    from_here _ c.args.kind c.args.at c.args.depth (node_of c.args.kind c.read_in.new.to) c.if-at-eq0.false (c.in_ok-node.ensures.node told) (λ s. Some (node_of c.args.kind c.read_in.new.to).value ≡ value_of (entry_at c.args.key.now (entries s))) (value_here c.args.key.now (node_of c.args.kind c.read_in.new.to) (sym (c.compare_in.ensures c.args.kind) ∙ c.in-Equal.is))
