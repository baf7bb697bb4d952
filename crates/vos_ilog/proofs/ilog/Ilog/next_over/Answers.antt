use Rattle.std.proofs.Common.{◌∙◌, ap}
use Rattle.std.specs.Option.{option_and_then}
use Rattle.vos_ilog.specs.Logs.{entry_in_pair}
use Rattle.vos_ilog.proofs.Reading.{log_tree}
use Rattle.vos_ilog.proofs.ilog.Ilog.next_over.Goals as goal

pub next_after-requires-clause-tree : goal.next_after-requires-clause-tree
next_after-requires-clause-tree g c told =
    let s = c.requires.here told in
    (s.0.0, log_tree (g.P.Pages.blocks c.args.pages.now) c.args.self.now.tree.kind c.args.self.now.tree.root s.0 c.requires.kind s.1.0 s.1.1.0)

pub returns-in_err-next_after-clause-steps : goal.returns-in_err-next_after-clause-steps
returns-in_err-next_after-clause-steps g c told x held at =
    c.next_after.ensures.steps told x.0 (log_tree (g.P.Pages.blocks c.args.pages.now) c.args.self.now.tree.kind c.args.self.now.tree.root x c.requires.kind held at)

pub returns-clause-steps : goal.returns-clause-steps
returns-clause-steps g c told x held at =
    c.next_after.ensures.steps told x.0 (log_tree (g.P.Pages.blocks c.args.pages.now) c.args.self.now.tree.kind c.args.self.now.tree.root x c.requires.kind held at)

pub returns-clause-found : goal.returns-clause-found
returns-clause-found g c told x held at =
    c.entry_in.ensures.entry
    ∙ ap (option_and_then entry_in_pair) (c.in_ok-next_after.ensures.found told x.0 (log_tree (g.P.Pages.blocks c.args.pages.now) c.args.self.now.tree.kind c.args.self.now.tree.root x c.requires.kind held at))
