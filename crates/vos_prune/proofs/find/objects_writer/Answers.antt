use Rattle.std.proofs.Common.{◌∙◌, None, ap, subst, sym}
use Rattle.pmem_pages.specs.Owners.{Holds}
use Rattle.vos_values.specs.declared.keys.Layout.TheVariants.{Two}
use Rattle.vos_values.specs.Keys.{IsObjectKey, object_key}
use Rattle.vos_levels.proofs.Calls.{if_ok_then}
use Rattle.vos_path.specs.Objects.{below_owner, dkey_level, object_level, or_none}
use Rattle.vos_path.proofs.Putting.{tree_of}
use Rattle.vos_settle.proofs.NodeTurns.{branch_holds, branch_is, branch_is_none}
use Rattle.vos_prune.specs.Writers.{one_object_writer}
use Rattle.vos_prune.proofs.find.objects_writer.Goals as goal

pub find_roots-requires-clause-tree : goal.find_roots-requires-clause-tree
find_roots-requires-clause-tree g c told =
    let s = c.requires.here told in
    (s.0.0, (tree_of object_level (g.P.Pages.blocks c.args.pages.now) c.args.objects.kind c.args.objects.root s.0 c.requires.kind s.1.0 s.1.1.0, tt))

pub returns-in_default-clause-found : goal.returns-in_default-clause-found
returns-in_default-clause-found g c told x held at =
    let m = g.P.Pages.blocks c.args.pages.now in
    let tree = tree_of object_level m c.args.objects.kind c.args.objects.root x c.requires.kind held at in
    let none = branch_is_none 1 object_key (IsObjectKey Two) dkey_level (object_key c.args.object) m x held c.key_of_object-key.result c.key_of_object-key.ensures.key c.in_ok-roots.field-0 (c.in_ok-roots.ensures.found told x.0 tree) c.in_default.is in
    sym (ap (or_none (one_object_writer c.args.kind c.args.at c.args.path.now) None) none)

pub object_writer-requires-clause-here : goal.object_writer-requires-clause-here
object_writer-requires-clause-here g c told =
    let s = c.requires.here told in
    let m = g.P.Pages.blocks c.args.pages.now in
    let tree = tree_of object_level m c.args.objects.kind c.args.objects.root s.0 c.requires.kind s.1.0 s.1.1.0 in
    let k = branch_is 1 object_key (IsObjectKey Two) dkey_level (object_key c.args.object) m s.0 s.1.0 c.key_of_object-key.result c.key_of_object-key.ensures.key c.in_ok-roots.field-0 (c.in_ok-roots.ensures.found told s.0.0 tree) c.in-Some.roots c.in-Some.is in
    let stands = subst (λ b. Holds (below_owner dkey_level) b k.thing.holds) (sym (c.find_roots.ensures.kept told)) (branch_holds 1 object_key (IsObjectKey Two) dkey_level (object_key c.args.object) m s.0 s.1.0 k.thing k.found) in
    (k.thing.holds, (stands, (k.is, tt)))

pub returns-clause-found : goal.returns-clause-found
returns-clause-found g c = if_ok_then c.object_writer.result (λ w h told x held at.
    let m = g.P.Pages.blocks c.args.pages.now in
    let tree = tree_of object_level m c.args.objects.kind c.args.objects.root x c.requires.kind held at in
    let k = branch_is 1 object_key (IsObjectKey Two) dkey_level (object_key c.args.object) m x held c.key_of_object-key.result c.key_of_object-key.ensures.key c.in_ok-roots.field-0 (c.in_ok-roots.ensures.found told x.0 tree) c.in-Some.roots c.in-Some.is in
    let stands = subst (λ b. Holds (below_owner dkey_level) b k.thing.holds) (sym (c.find_roots.ensures.kept told)) (branch_holds 1 object_key (IsObjectKey Two) dkey_level (object_key c.args.object) m x held k.thing k.found) in
    h told k.thing.holds stands k.is ∙ sym (ap (or_none (one_object_writer c.args.kind c.args.at c.args.path.now) None) k.found)) c.object_writer.ensures.found
