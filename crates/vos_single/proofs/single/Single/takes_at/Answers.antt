use Rattle.vos_single.proofs.Reading.{single_tree}
use Rattle.vos_single.proofs.Settling.{none_high, taken_there}
use Rattle.vos_single.proofs.single.Single.takes_at.Goals as goal

pub returns-then-at-ge64-clause-found : goal.returns-then-at-ge64-clause-found
returns-then-at-ge64-clause-found g c told x held at = none_high (g.P.Pages.blocks c.args.pages.now) x c.args.at c.args.change c.if-at-ge64.true held

pub find_mark-requires-clause-tree : goal.find_mark-requires-clause-tree
find_mark-requires-clause-tree g c told =
    let s = c.requires.here told in
    (s.0.0, single_tree (g.P.Pages.blocks c.args.pages.now) c.args.self.now.tree.kind c.args.self.now.tree.root s.0 c.requires.kind s.1.0 s.1.1.0)

pub returns-clause-found : goal.returns-clause-found
returns-clause-found g c told x held at =
    let tree = single_tree (g.P.Pages.blocks c.args.pages.now) c.args.self.now.tree.kind c.args.self.now.tree.root x c.requires.kind held at in
    taken_there (g.P.Pages.blocks c.args.pages.now) x c.args.at c.key_at-key.result c.args.change c.in_ok-mark.mark c.takes_mark.result c.key_at-key.ensures.moment c.key_at-key.ensures.key held (c.in_ok-mark.ensures.found told x.0 tree) c.takes_mark.ensures
