use Rattle.std.proofs.Common.{◌∙◌, ap}
use Rattle.std.specs.Option.{option_and_then}
use Rattle.vos_path.specs.Objects.{akey_level}
use Rattle.vos_path.proofs.Putting.{tree_of}
use Rattle.vos_lists.specs.Entries.{akey_in_pair}
use Rattle.vos_lists.proofs.entry.next_akey.Goals as goal

pub next_after-requires-clause-tree : goal.next_after-requires-clause-tree
next_after-requires-clause-tree g c told =
    let s = c.requires.here told in
    (s.0.0, tree_of akey_level (g.P.Pages.blocks c.args.pages.now) c.args.akeys.kind c.args.akeys.root s.0 c.requires.kind s.1.0 s.1.1.0)

pub returns-clause-found : goal.returns-clause-found
returns-clause-found g c told x held at =
    c.akey_in.ensures.said
    ∙ ap (option_and_then akey_in_pair) (c.in_ok-next_after.ensures.found told x.0 (tree_of akey_level (g.P.Pages.blocks c.args.pages.now) c.args.akeys.kind c.args.akeys.root x c.requires.kind held at))
