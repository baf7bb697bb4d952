use Rattle.std.proofs.lemmas.Result.{IfOk-weaker}
use Rattle.pmem_tree.proofs.Found.{tree_below, steps_2}
use Rattle.pmem_tree.proofs.tree.Tree.last_below.Goals as goal

pub last_before-requires-clause-tree : goal.last_before-requires-clause-tree
last_before-requires-clause-tree g c told =
    let w = c.requires.tree told in
    (w.0, tree_below _ c.args.self.now.kind c.args.self.now.root w.0 w.1)

pub returns-clause-found : goal.returns-clause-found
returns-clause-found g c =
    IfOk-weaker c.last_before.result _ _ (λ v h told t w. h told t (tree_below _ c.args.self.now.kind c.args.self.now.root t w)) c.last_before.ensures.found

pub returns-clause-steps : goal.returns-clause-steps
returns-clause-steps g c told t w =
    steps_2 t _ _ w.balanced (c.last_before.ensures.steps told t (tree_below _ c.args.self.now.kind c.args.self.now.root t w))
