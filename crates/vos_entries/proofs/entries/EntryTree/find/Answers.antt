use Rattle.std.proofs.Common.{◌∙◌, ap}
use Rattle.std.specs.Option.{option_and_then}
use Rattle.pmem_pages.specs.Shape.{entries, entry_at}
use Rattle.vos_versions.specs.pmem_tree_base.Find.{value_of}
use Rattle.vos_values.specs.Values.{entry_in}
use Rattle.vos_entries.proofs.Changing.{entry_tree, mark_found}
use Rattle.vos_entries.proofs.entries.EntryTree.find.Goals as goal

pub get-requires-clause-tree : goal.get-requires-clause-tree
get-requires-clause-tree g c told =
    let s = c.requires.here told in
    (s.0.0, entry_tree (g.P.Pages.blocks c.args.pages.now) c.args.self.now.tree.kind c.args.self.now.tree.root s.0 c.requires.kind s.1.0 s.1.1.0)

pub returns-in_err-get-clause-steps : goal.returns-in_err-get-clause-steps
returns-in_err-get-clause-steps g c told x held at = c.get.ensures.steps told x.0 (entry_tree (g.P.Pages.blocks c.args.pages.now) c.args.self.now.tree.kind c.args.self.now.tree.root x c.requires.kind held at)

pub returns-clause-steps : goal.returns-clause-steps
returns-clause-steps g c told x held at = c.get.ensures.steps told x.0 (entry_tree (g.P.Pages.blocks c.args.pages.now) c.args.self.now.tree.kind c.args.self.now.tree.root x c.requires.kind held at)

pub returns-clause-found : goal.returns-clause-found
returns-clause-found g c told x held at =
    let m = g.P.Pages.blocks c.args.pages.now in
    c.mark_in.ensures
    ∙ (ap (option_and_then entry_in) (c.in_ok-get.ensures.found told x.0 (entry_tree m c.args.self.now.tree.kind c.args.self.now.tree.root x c.requires.kind held at))
    ∙ (ap (λ k. option_and_then entry_in (value_of (entry_at k (entries x.0)))) c.key_at-key.ensures.key ∙ mark_found c.args.attempt c.key_at-key.ensures.attempt m x held))
