use Rattle.std.proofs.Common.{◌∙◌, ap, refl, subst}
use Rattle.std.specs.Option.{option_and_then}
use Rattle.vos_values.specs.Keys.{IsMoment, moment_key}
use Rattle.vos_path.specs.vos_single.Singles.{single_level}
use Rattle.vos_path.proofs.Putting.{tree_of}
use Rattle.vos_lists.specs.Entries.{moment_in_pair}
use Rattle.vos_lists.proofs.Reading.{newest_found}
use Rattle.vos_lists.proofs.values.newest_at.Goals as goal

pub last_below-requires-clause-tree : goal.last_below-requires-clause-tree
last_below-requires-clause-tree g c told =
    let s = c.requires.here told in
    (s.0.0, tree_of single_level (g.P.Pages.blocks c.args.pages.now) 5 c.args.root s.0 refl s.1.0 s.1.1.0)

pub returns-clause-found : goal.returns-clause-found
returns-clause-found g c told x held at =
    let is = subst IsMoment c.start_of.ensures.moment c.start_of.ensures.is in
    c.moment_in.ensures
    ∙ (ap (option_and_then moment_in_pair) (c.in_ok-last_below.ensures.found told x.0 (tree_of single_level (g.P.Pages.blocks c.args.pages.now) 5 c.args.root x refl held at))
    ∙ newest_found (g.P.Pages.blocks c.args.pages.now) x c.args.below c.key_at-key.result held is (c.key_at-key.ensures.key ∙ ap moment_key c.start_of.ensures.moment))
