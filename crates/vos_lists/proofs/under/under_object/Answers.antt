use Rattle.std.proofs.Common.{ap}
use Rattle.vos_path.specs.Objects.{object_level}
use Rattle.vos_path.proofs.DkeyWrites.{object_roots_are}
use Rattle.vos_path.proofs.Putting.{tree_of}
use Rattle.vos_lists.proofs.under.under_object.Goals as goal

pub find_roots-requires-clause-tree : goal.find_roots-requires-clause-tree
find_roots-requires-clause-tree g c told =
    let s = c.requires.here told in
    (s.0.0, (tree_of object_level (g.P.Pages.blocks c.args.pages.now) c.args.objects.kind c.args.objects.root s.0 c.requires.kind s.1.0 s.1.1.0, tt))

pub returns-clause-found : goal.returns-clause-found
returns-clause-found g c told x held at =
    let m = g.P.Pages.blocks c.args.pages.now in
    let tree = tree_of object_level m c.args.objects.kind c.args.objects.root x c.requires.kind held at in
    let roots = object_roots_are m x held c.args.object c.key_of_object-key.result c.key_of_object-key.ensures.key c.in_ok-find_roots.field-0 (c.in_ok-find_roots.ensures.found told x.0 tree) c.roots_or_zero-roots.result c.roots_or_zero-roots.ensures in
    ap (λ r. r.below) roots
