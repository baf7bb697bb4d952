use Rattle.std.proofs.Common.{ap, refl, subst, sym}
use Rattle.pmem_pages.specs.Owners.{Holds}
use Rattle.vos_levels.specs.Levels.{hung}
use Rattle.vos_path.specs.Objects.{dkey_level}
use Rattle.vos_path.proofs.DkeyWrites.{dkey_roots_are}
use Rattle.vos_path.proofs.Putting.{tree_of}
use Rattle.vos_reads.specs.Ways.{below_object}
use Rattle.vos_reads.proofs.Going.{dkeys_hold}
use Rattle.vos_lists.proofs.under.under_dkey.Goals as goal

pub find_roots-requires-clause-tree : goal.find_roots-requires-clause-tree
find_roots-requires-clause-tree g c told =
    let s = c.requires.here told in
    let x = s.0 in
    let m = g.P.Pages.blocks c.args.pages.now in
    let over = c.in_ok-root.ensures.found told x s.1.0 s.1.1.0 in
    let dkeys = (below_object c.args.object x).1 in
    let held = subst (λ b. Holds (hung dkey_level) b dkeys) (sym (c.under_object.ensures.kept told)) (dkeys_hold m x c.args.object s.1.0) in
    (dkeys.0, (tree_of dkey_level (g.P.Pages.blocks c.under_object.new.pages) 2 c.in_ok-root.root dkeys refl held over, tt))

pub returns-clause-found : goal.returns-clause-found
returns-clause-found g c told x held at =
    let m = g.P.Pages.blocks c.args.pages.now in
    let o = c.args.object in
    let over = c.in_ok-root.ensures.found told x held at in
    let dkeys = (below_object o x).1 in
    let here = subst (λ b. Holds (hung dkey_level) b dkeys) (sym (c.under_object.ensures.kept told)) (dkeys_hold m x o held) in
    let tree = tree_of dkey_level (g.P.Pages.blocks c.under_object.new.pages) 2 c.in_ok-root.root dkeys refl here over in
    let roots = dkey_roots_are m dkeys (dkeys_hold m x o held) c.args.dkey.now c.key_of.result c.key_of.ensures.key c.in_ok-find_roots.field-0 (c.in_ok-find_roots.ensures.found told dkeys.0 tree) c.roots_or_zero-roots.result c.roots_or_zero-roots.ensures in
    ap (λ r. r.below) roots
