use Rattle.vos_moments.proofs.vos_levels.Calls.{on_ok_then}
use Rattle.vos_ilog.proofs.Changing.{entry_done, has_key}
use Rattle.vos_ilog.proofs.Reading.{log_tree}
use Rattle.vos_ilog.proofs.ilog.Ilog.put_done.Goals as goal

pub put_value-requires-clause-tree : goal.put_value-requires-clause-tree
put_value-requires-clause-tree g c told =
    let s = c.requires.log told in
    let m = g.P.Pages.blocks c.args.pages.now in
    (s.0.0, (log_tree m c.args.self.now.tree.kind c.args.self.now.tree.root s.0 c.requires.kind s.1.0 s.1.1.0, has_key m s.0 c.args.at c.args.mark c.requires.at s.1.0 s.1.1.1 c.args.key.now c.requires.key_is))

pub returns-clause-steps : goal.returns-clause-steps
returns-clause-steps g c told x held at =
    c.put_value.ensures.steps told x.0 (log_tree (g.P.Pages.blocks c.args.pages.now) c.args.self.now.tree.kind c.args.self.now.tree.root x c.requires.kind held at)

pub returns-clause-put : goal.returns-clause-put
returns-clause-put g c = on_ok_then c.put_value.result (λ h told x held at says.
    let m = g.P.Pages.blocks c.args.pages.now in
    entry_done m x c.args.at c.args.mark c.requires.at held says (g.P.Pages.blocks c.put_value.new.pages) c.args.self.now.tree.kind c.put_value.new.self.root c.args.key.now c.log_value-value.result c.requires.kind c.requires.key_is c.log_value-value.ensures.value
    (h told x.0 (log_tree m c.args.self.now.tree.kind c.args.self.now.tree.root x c.requires.kind held at))) c.put_value.ensures.put
