use Rattle.std.proofs.Common.{◌∙◌, ap}
use Rattle.std.specs.Option.{option_and_then}
use Rattle.vos_values.specs.Values.{log_in}
use Rattle.vos_ilog.proofs.Reading.{log_tree, mark_found}
use Rattle.vos_ilog.proofs.ilog.Ilog.find_mark.Goals as goal

pub get-requires-clause-tree : goal.get-requires-clause-tree
get-requires-clause-tree g c told =
    let s = c.requires.log told in
    (s.0.0, log_tree (g.P.Pages.blocks c.args.pages.now) c.args.self.now.tree.kind c.args.self.now.tree.root s.0 c.requires.kind s.1.0 s.1.1.0)

pub returns-in_err-get-clause-steps : goal.returns-in_err-get-clause-steps
returns-in_err-get-clause-steps g c told x held at =
    c.get.ensures.steps told x.0 (log_tree (g.P.Pages.blocks c.args.pages.now) c.args.self.now.tree.kind c.args.self.now.tree.root x c.requires.kind held at)

pub returns-clause-steps : goal.returns-clause-steps
returns-clause-steps g c told x held at =
    c.get.ensures.steps told x.0 (log_tree (g.P.Pages.blocks c.args.pages.now) c.args.self.now.tree.kind c.args.self.now.tree.root x c.requires.kind held at)

pub returns-clause-found : goal.returns-clause-found
returns-clause-found g c told x held at =
    c.mark_in.ensures
    ∙ (ap (option_and_then log_in) (c.in_ok-get.ensures.found told x.0 (log_tree (g.P.Pages.blocks c.args.pages.now) c.args.self.now.tree.kind c.args.self.now.tree.root x c.requires.kind held at))
    ∙ mark_found (g.P.Pages.blocks c.args.pages.now) x c.args.at c.args.key.now held c.requires.at c.requires.key_is)
