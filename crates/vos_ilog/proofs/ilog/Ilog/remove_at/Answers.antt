use Rattle.vos_moments.proofs.vos_levels.Calls.{on_ok_then}
use Rattle.vos_ilog.proofs.Changing.{entry_gone, has_key}
use Rattle.vos_ilog.proofs.Reading.{log_tree}
use Rattle.vos_ilog.proofs.ilog.Ilog.remove_at.Goals as goal

pub remove-requires-clause-tree : goal.remove-requires-clause-tree
remove-requires-clause-tree g c told =
    let s = c.requires.log told in
    let m = g.P.Pages.blocks c.args.pages.now in
    (s.0.0, (log_tree m c.args.self.now.tree.kind c.args.self.now.tree.root s.0 c.requires.kind s.1.0 s.1.1.0, has_key m s.0 c.args.at c.args.mark c.requires.at s.1.0 s.1.1.1 c.args.key.now c.requires.key_is))

pub returns-clause-steps : goal.returns-clause-steps
returns-clause-steps g c told x held at =
    c.remove.ensures.steps told x.0 (log_tree (g.P.Pages.blocks c.args.pages.now) c.args.self.now.tree.kind c.args.self.now.tree.root x c.requires.kind held at)

pub returns-clause-removed : goal.returns-clause-removed
returns-clause-removed g c = on_ok_then c.remove.result (λ h told x held at says.
    let m = g.P.Pages.blocks c.args.pages.now in
    entry_gone m x c.args.at c.args.mark c.requires.at held says (g.P.Pages.blocks c.remove.new.pages) c.args.self.now.tree.kind c.remove.new.self.root c.args.key.now c.requires.kind c.requires.key_is
    (h told x.0 (log_tree m c.args.self.now.tree.kind c.args.self.now.tree.root x c.requires.kind held at))) c.remove.ensures.removed

pub returns-clause-too_much : goal.returns-clause-too_much
returns-clause-too_much g c h told x held at says =
    let m = g.P.Pages.blocks c.args.pages.now in
    let k = has_key m x c.args.at c.args.mark c.requires.at held says c.args.key.now c.requires.key_is in
    c.remove.ensures.too_much h told x.0 (log_tree m c.args.self.now.tree.kind c.args.self.now.tree.root x c.requires.kind held at) k.0 k.1

pub returns-clause-few_left : goal.returns-clause-few_left
returns-clause-few_left g c h told x held at says =
    let m = g.P.Pages.blocks c.args.pages.now in
    let k = has_key m x c.args.at c.args.mark c.requires.at held says c.args.key.now c.requires.key_is in
    c.remove.ensures.few_left h told x.0 (log_tree m c.args.self.now.tree.kind c.args.self.now.tree.root x c.requires.kind held at) k.0 k.1

pub returns-clause-staged : goal.returns-clause-staged
returns-clause-staged g c = on_ok_then c.remove.result (λ h told x held at. h told x.0 (log_tree (g.P.Pages.blocks c.args.pages.now) c.args.self.now.tree.kind c.args.self.now.tree.root x c.requires.kind held at)) c.remove.ensures.staged
