use Rattle.std.proofs.Common.{◌∙◌, ap, refl}
use Rattle.std.specs.Option.{option_and_then}
use Rattle.vos_values.specs.Values.{log_in}
use Rattle.vos_ilog.proofs.Reading.{log_tree, mark_found}
use Rattle.vos_settle.proofs.log.find_mark.Goals as goal

pub get-requires-clause-tree : goal.get-requires-clause-tree
get-requires-clause-tree g c told =
    let s = c.requires.log told in
    (s.0.0, log_tree (g.P.Pages.blocks c.args.pages.now) 4 c.args.root s.0 refl s.1.0 s.1.1.0)

pub returns-clause-found : goal.returns-clause-found
returns-clause-found g c told x held at =
    c.mark_in.ensures
    ∙ (ap (option_and_then log_in) (c.in_ok-get.ensures.found told x.0 (log_tree (g.P.Pages.blocks c.args.pages.now) 4 c.args.root x refl held at))
    ∙ mark_found (g.P.Pages.blocks c.args.pages.now) x c.args.at c.key_at-key.result held c.key_at-key.ensures.moment c.key_at-key.ensures.key)
