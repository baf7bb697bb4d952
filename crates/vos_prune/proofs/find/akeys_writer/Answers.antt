use Rattle.std.proofs.Common.{◌∙◌, None, ap, subst, sym}
use Rattle.pmem_pages.specs.Owners.{Holds}
use Rattle.vos_levels.proofs.Calls.{if_ok_then}
use Rattle.vos_path.specs.Objects.{akey_level, or_none, values_owner}
use Rattle.vos_path.proofs.Putting.{tree_of}
use Rattle.vos_settle.proofs.NodeTurns.{akey_holds, akey_is, akey_is_none}
use Rattle.vos_prune.specs.Writers.{akey_writer}
use Rattle.vos_prune.proofs.find.akeys_writer.Goals as goal

pub find_akey-requires-clause-tree : goal.find_akey-requires-clause-tree
find_akey-requires-clause-tree g c told =
    let s = c.requires.here told in
    (s.0.0, (tree_of akey_level (g.P.Pages.blocks c.args.pages.now) c.args.akeys.kind c.args.akeys.root s.0 c.requires.kind s.1.0 s.1.1.0, tt))

pub returns-in_default-clause-found : goal.returns-in_default-clause-found
returns-in_default-clause-found g c told x held at =
    let m = g.P.Pages.blocks c.args.pages.now in
    let tree = tree_of akey_level m c.args.akeys.kind c.args.akeys.root x c.requires.kind held at in
    let none = akey_is_none m x held c.args.name.now c.key_of-key.result c.key_of-key.ensures.key c.in_ok-roots.field-0 (c.in_ok-roots.ensures.found told x.0 tree) c.in_default.is in
    sym (ap (or_none (akey_writer c.args.kind c.args.at) None) none)

pub values_writer-requires-clause-here : goal.values_writer-requires-clause-here
values_writer-requires-clause-here g c told =
    let s = c.requires.here told in
    let m = g.P.Pages.blocks c.args.pages.now in
    let tree = tree_of akey_level m c.args.akeys.kind c.args.akeys.root s.0 c.requires.kind s.1.0 s.1.1.0 in
    let k = akey_is m s.0 s.1.0 c.args.name.now c.key_of-key.result c.key_of-key.ensures.key c.in_ok-roots.field-0 (c.in_ok-roots.ensures.found told s.0.0 tree) c.in-Some.roots c.in-Some.is in
    let stands = subst (λ b. Holds (values_owner) b k.thing.holds) (sym (c.find_akey.ensures.kept told)) (akey_holds m s.0 s.1.0 c.args.name.now k.thing k.found) in
    (k.thing.holds, (stands, (k.is, tt)))

pub returns-clause-found : goal.returns-clause-found
returns-clause-found g c = if_ok_then c.values_writer.result (λ w h told x held at.
    let m = g.P.Pages.blocks c.args.pages.now in
    let tree = tree_of akey_level m c.args.akeys.kind c.args.akeys.root x c.requires.kind held at in
    let k = akey_is m x held c.args.name.now c.key_of-key.result c.key_of-key.ensures.key c.in_ok-roots.field-0 (c.in_ok-roots.ensures.found told x.0 tree) c.in-Some.roots c.in-Some.is in
    let stands = subst (λ b. Holds (values_owner) b k.thing.holds) (sym (c.find_akey.ensures.kept told)) (akey_holds m x held c.args.name.now k.thing k.found) in
    h told k.thing.holds stands k.is ∙ sym (ap (or_none (akey_writer c.args.kind c.args.at) None) k.found)) c.values_writer.ensures.found
