use Rattle.std.proofs.Common.{◌∙◌, ap, refl}
use Rattle.std.specs.Option.{option_and_then}
use Rattle.vos_values.specs.Values.{version_in}
use Rattle.vos_single.proofs.Reading.{single_tree}
use Rattle.vos_prune.specs.Writers.{done_version}
use Rattle.vos_prune.proofs.Reading.{single_found}
use Rattle.vos_prune.proofs.marks.single_writer.Goals as goal

pub get-requires-clause-tree : goal.get-requires-clause-tree
get-requires-clause-tree g c told =
    let s = c.requires.here told in
    (s.0.0, single_tree (g.P.Pages.blocks c.args.pages.now) 5 c.args.root s.0 refl s.1.0 s.1.1.0)

pub returns-clause-found : goal.returns-clause-found
returns-clause-found g c told x held at =
    c.done_version.ensures
    ∙ ap done_version (c.mark_in.ensures
    ∙ (ap (option_and_then version_in) (c.in_ok-get.ensures.found told x.0 (single_tree (g.P.Pages.blocks c.args.pages.now) 5 c.args.root x refl held at))
    ∙ single_found (g.P.Pages.blocks c.args.pages.now) x c.args.at c.key_at-key.result held c.key_at-key.ensures.moment c.key_at-key.ensures.key))
