use Rattle.std.proofs.Common.{◌∙◌, ap, arith, refl, subst, sym}
use Rattle.pmem_pages.specs.Owners.{Holds}
use Rattle.vos_levels.specs.Levels.{hung}
use Rattle.vos_path.specs.Objects.{akey_level, dkey_level, object_level}
use Rattle.vos_path.proofs.AkeyWrites.{akey_roots_are}
use Rattle.vos_path.proofs.DkeyWrites.{dkey_roots_are, object_roots_are}
use Rattle.vos_path.proofs.Putting.{tree_of}
use Rattle.vos_reads.specs.Ways.{below_object, dkey_of}
use Rattle.vos_reads.proofs.Going.{akeys_hold, dkeys_hold}
use Rattle.vos_reads.proofs.way.way_down.Goals as goal

pub find_roots-requires-clause-tree : goal.find_roots-requires-clause-tree
find_roots-requires-clause-tree g c told =
    let s = c.requires.here told in
    (s.0.0, (tree_of object_level (g.P.Pages.blocks c.args.pages.now) c.args.objects.kind c.args.objects.root s.0 c.requires.kind s.1.0 s.1.1.0, tt))

pub find_roots-requires-2-clause-tree : goal.find_roots-requires-2-clause-tree
find_roots-requires-2-clause-tree g c told =
    let s = c.requires.here told in
    let x = s.0 in
    let m = g.P.Pages.blocks c.args.pages.now in
    let o = c.args.object in
    let tree = tree_of object_level m c.args.objects.kind c.args.objects.root x c.requires.kind s.1.0 s.1.1.0 in
    let top = object_roots_are m x s.1.0 o c.key_of_object-key.result c.key_of_object-key.ensures.key c.in_ok-find_roots.field-0 (c.in_ok-find_roots.ensures.found told x.0 tree) c.roots_or_zero-top.result c.roots_or_zero-top.ensures in
    let dkeys = (below_object o x).1 in
    (dkeys.0, (tree_of dkey_level (g.P.Pages.blocks c.find_roots.new.pages) 2 c.roots_or_zero-top.result.below dkeys refl (subst (λ b. Holds (hung dkey_level) b dkeys) (sym (c.find_roots.ensures.kept told)) (dkeys_hold m x o s.1.0)) (ap (λ r. r.below) top), tt))

pub find_akey-requires-clause-tree : goal.find_akey-requires-clause-tree
find_akey-requires-clause-tree g c told =
    let s = c.requires.here told in
    let x = s.0 in
    let m = g.P.Pages.blocks c.args.pages.now in
    let n = g.P.Pages.blocks c.find_roots.new.pages in
    let o = c.args.object in
    let d = c.args.dkey.now in
    let tree = tree_of object_level m c.args.objects.kind c.args.objects.root x c.requires.kind s.1.0 s.1.1.0 in
    let top = object_roots_are m x s.1.0 o c.key_of_object-key.result c.key_of_object-key.ensures.key c.in_ok-find_roots.field-0 (c.in_ok-find_roots.ensures.found told x.0 tree) c.roots_or_zero-top.result c.roots_or_zero-top.ensures in
    let dkeys = (below_object o x).1 in
    let tree2 = tree_of dkey_level n 2 c.roots_or_zero-top.result.below dkeys refl (subst (λ b. Holds (hung dkey_level) b dkeys) (sym (c.find_roots.ensures.kept told)) (dkeys_hold m x o s.1.0)) (ap (λ r. r.below) top) in
    let mid = dkey_roots_are m dkeys (dkeys_hold m x o s.1.0) d c.key_of.result c.key_of.ensures.key c.in_ok-find_roots-2.field-0 (c.in_ok-find_roots-2.ensures.found told dkeys.0 tree2) c.roots_or_zero-mid.result c.roots_or_zero-mid.ensures in
    let akeys = (dkey_of o d x).1 in
    let same = c.find_roots-2.ensures.kept told ∙ c.find_roots.ensures.kept told in
    (akeys.0, (tree_of akey_level (g.P.Pages.blocks c.find_roots-2.new.pages) 3 c.roots_or_zero-mid.result.below akeys refl (subst (λ b. Holds (hung akey_level) b akeys) (sym same) (akeys_hold m x o s.1.0 d)) (ap (λ r. r.below) mid), tt))

pub returns-clause-found : goal.returns-clause-found
returns-clause-found g c told x held at =
    let m = g.P.Pages.blocks c.args.pages.now in
    let n = g.P.Pages.blocks c.find_roots.new.pages in
    let o = c.args.object in
    let d = c.args.dkey.now in
    let a = c.args.akey.now in
    let tree = tree_of object_level m c.args.objects.kind c.args.objects.root x c.requires.kind held at in
    let top = object_roots_are m x held o c.key_of_object-key.result c.key_of_object-key.ensures.key c.in_ok-find_roots.field-0 (c.in_ok-find_roots.ensures.found told x.0 tree) c.roots_or_zero-top.result c.roots_or_zero-top.ensures in
    let dkeys = (below_object o x).1 in
    let tree2 = tree_of dkey_level n 2 c.roots_or_zero-top.result.below dkeys refl (subst (λ b. Holds (hung dkey_level) b dkeys) (sym (c.find_roots.ensures.kept told)) (dkeys_hold m x o held)) (ap (λ r. r.below) top) in
    let mid = dkey_roots_are m dkeys (dkeys_hold m x o held) d c.key_of.result c.key_of.ensures.key c.in_ok-find_roots-2.field-0 (c.in_ok-find_roots-2.ensures.found told dkeys.0 tree2) c.roots_or_zero-mid.result c.roots_or_zero-mid.ensures in
    let akeys = (dkey_of o d x).1 in
    let same = c.find_roots-2.ensures.kept told ∙ c.find_roots.ensures.kept told in
    let tree3 = tree_of akey_level (g.P.Pages.blocks c.find_roots-2.new.pages) 3 c.roots_or_zero-mid.result.below akeys refl (subst (λ b. Holds (hung akey_level) b akeys) (sym same) (akeys_hold m x o held d)) (ap (λ r. r.below) mid) in
    let last = akey_roots_are m akeys (akeys_hold m x o held d) a c.key_of-2.result c.key_of-2.ensures.key c.in_ok-find_akey.field-0 (c.in_ok-find_akey.ensures.found told akeys.0 tree3) c.akey_or_zero.result c.akey_or_zero.ensures in
    last

pub returns-in_err-find_roots-clause-steps : goal.returns-in_err-find_roots-clause-steps
returns-in_err-find_roots-clause-steps g c told x held at d few =
    let m = g.P.Pages.blocks c.args.pages.now in
    let n = g.P.Pages.blocks c.find_roots.new.pages in
    let o = c.args.object in
    let k = c.args.dkey.now in
    let tree = tree_of object_level m c.args.objects.kind c.args.objects.root x c.requires.kind held at in
    let one = c.find_roots.ensures.steps told x.0 tree d few.objects in
    omega arith

pub returns-in_err-find_roots-2-clause-steps : goal.returns-in_err-find_roots-2-clause-steps
returns-in_err-find_roots-2-clause-steps g c told x held at d few =
    let m = g.P.Pages.blocks c.args.pages.now in
    let n = g.P.Pages.blocks c.find_roots.new.pages in
    let o = c.args.object in
    let k = c.args.dkey.now in
    let tree = tree_of object_level m c.args.objects.kind c.args.objects.root x c.requires.kind held at in
    let one = c.find_roots.ensures.steps told x.0 tree d few.objects in
    let top = object_roots_are m x held o c.key_of_object-key.result c.key_of_object-key.ensures.key c.in_ok-find_roots.field-0 (c.in_ok-find_roots.ensures.found told x.0 tree) c.roots_or_zero-top.result c.roots_or_zero-top.ensures in
    let dkeys = (below_object o x).1 in
    let tree2 = tree_of dkey_level n 2 c.roots_or_zero-top.result.below dkeys refl (subst (λ b. Holds (hung dkey_level) b dkeys) (sym (c.find_roots.ensures.kept told)) (dkeys_hold m x o held)) (ap (λ r. r.below) top) in
    let two = c.find_roots-2.ensures.steps told dkeys.0 tree2 d few.dkeys in
    omega arith

pub returns-in_err-find_akey-clause-steps : goal.returns-in_err-find_akey-clause-steps
returns-in_err-find_akey-clause-steps g c told x held at d few =
    let m = g.P.Pages.blocks c.args.pages.now in
    let n = g.P.Pages.blocks c.find_roots.new.pages in
    let o = c.args.object in
    let k = c.args.dkey.now in
    let tree = tree_of object_level m c.args.objects.kind c.args.objects.root x c.requires.kind held at in
    let one = c.find_roots.ensures.steps told x.0 tree d few.objects in
    let top = object_roots_are m x held o c.key_of_object-key.result c.key_of_object-key.ensures.key c.in_ok-find_roots.field-0 (c.in_ok-find_roots.ensures.found told x.0 tree) c.roots_or_zero-top.result c.roots_or_zero-top.ensures in
    let dkeys = (below_object o x).1 in
    let tree2 = tree_of dkey_level n 2 c.roots_or_zero-top.result.below dkeys refl (subst (λ b. Holds (hung dkey_level) b dkeys) (sym (c.find_roots.ensures.kept told)) (dkeys_hold m x o held)) (ap (λ r. r.below) top) in
    let two = c.find_roots-2.ensures.steps told dkeys.0 tree2 d few.dkeys in
    let mid = dkey_roots_are m dkeys (dkeys_hold m x o held) k c.key_of.result c.key_of.ensures.key c.in_ok-find_roots-2.field-0 (c.in_ok-find_roots-2.ensures.found told dkeys.0 tree2) c.roots_or_zero-mid.result c.roots_or_zero-mid.ensures in
    let akeys = (dkey_of o k x).1 in
    let same = c.find_roots-2.ensures.kept told ∙ c.find_roots.ensures.kept told in
    let tree3 = tree_of akey_level (g.P.Pages.blocks c.find_roots-2.new.pages) 3 c.roots_or_zero-mid.result.below akeys refl (subst (λ b. Holds (hung akey_level) b akeys) (sym same) (akeys_hold m x o held k)) (ap (λ r. r.below) mid) in
    let three = c.find_akey.ensures.steps told akeys.0 tree3 d few.akeys in
    omega arith

pub returns-clause-steps : goal.returns-clause-steps
returns-clause-steps g c told x held at d few =
    let m = g.P.Pages.blocks c.args.pages.now in
    let n = g.P.Pages.blocks c.find_roots.new.pages in
    let o = c.args.object in
    let k = c.args.dkey.now in
    let tree = tree_of object_level m c.args.objects.kind c.args.objects.root x c.requires.kind held at in
    let one = c.find_roots.ensures.steps told x.0 tree d few.objects in
    let top = object_roots_are m x held o c.key_of_object-key.result c.key_of_object-key.ensures.key c.in_ok-find_roots.field-0 (c.in_ok-find_roots.ensures.found told x.0 tree) c.roots_or_zero-top.result c.roots_or_zero-top.ensures in
    let dkeys = (below_object o x).1 in
    let tree2 = tree_of dkey_level n 2 c.roots_or_zero-top.result.below dkeys refl (subst (λ b. Holds (hung dkey_level) b dkeys) (sym (c.find_roots.ensures.kept told)) (dkeys_hold m x o held)) (ap (λ r. r.below) top) in
    let two = c.find_roots-2.ensures.steps told dkeys.0 tree2 d few.dkeys in
    let mid = dkey_roots_are m dkeys (dkeys_hold m x o held) k c.key_of.result c.key_of.ensures.key c.in_ok-find_roots-2.field-0 (c.in_ok-find_roots-2.ensures.found told dkeys.0 tree2) c.roots_or_zero-mid.result c.roots_or_zero-mid.ensures in
    let akeys = (dkey_of o k x).1 in
    let same = c.find_roots-2.ensures.kept told ∙ c.find_roots.ensures.kept told in
    let tree3 = tree_of akey_level (g.P.Pages.blocks c.find_roots-2.new.pages) 3 c.roots_or_zero-mid.result.below akeys refl (subst (λ b. Holds (hung akey_level) b akeys) (sym same) (akeys_hold m x o held k)) (ap (λ r. r.below) mid) in
    let three = c.find_akey.ensures.steps told akeys.0 tree3 d few.akeys in
    omega arith
