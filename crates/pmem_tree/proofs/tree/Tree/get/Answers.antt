use Rattle.std.proofs.lemmas.Result.{IfOk-weaker}
use Rattle.pmem_tree.proofs.Found.{tree_below, steps_2}
use Rattle.pmem_tree.proofs.tree.Tree.get.Goals as goal

pub find-requires-clause-tree : goal.find-requires-clause-tree
find-requires-clause-tree g c told =
    let w = c.requires.tree told in
    (w.0, tree_below _ c.args.self.now.kind c.args.self.now.root w.0 w.1)

pub returns-clause-found : goal.returns-clause-found
returns-clause-found g c =
    IfOk-weaker c.find.result _ _ (λ v h told t w. h told t (tree_below _ c.args.self.now.kind c.args.self.now.root t w)) c.find.ensures.found

pub returns-clause-steps : goal.returns-clause-steps
returns-clause-steps g c told t w =
    steps_2 t _ _ w.balanced (c.find.ensures.steps told t (tree_below _ c.args.self.now.kind c.args.self.now.root t w))
