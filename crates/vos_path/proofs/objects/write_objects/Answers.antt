use Rattle.std.proofs.Common.{rules, ◌≡◌, ◌∙◌, Err, IsErrOf, None, ap, subst, sym}
use Rattle.base_types.specs.Operations.{write_path}
use Rattle.pmem_pages.specs.Owners.{Holds}
use Rattle.pmem_pages.specs.Shape.{IsTree}
use Rattle.pmem_tree_base.specs.declared.refusal.TreeNo.TheVariants.{TooMuch}
use Rattle.vos_values.specs.declared.keys.ObjectKey.{ObjectKey}
use Rattle.vos_values.specs.Keys.{object_key}
use Rattle.vos_values.specs.Values.{roots_value}
use Rattle.vos_extent.specs.vos_levels.Levels.{HasMore, hung_root}
use Rattle.vos_extent.proofs.vos_levels.Calls.{on_ok_then}
use Rattle.vos_extent.proofs.vos_versions.Marks.{err_other}
use Rattle.vos_path.specs.Calls.{LacksFor, SpendsAtMost, Turns, for_pair}
use Rattle.pmem_tree.specs.Changes.{PutAt}
use Rattle.vos_path.specs.Nodes.{ObjectNoted, ObjectsNoted}
use Rattle.vos_path.specs.Objects.{below_object_versions, below_or_none, below_owner, below_roots, dkey_level, object_level, objects_owner, objects_versions}
use Rattle.vos_path.specs.Writes.{IsAtObject, data_blocks, fresh, below_object_pairs}
use Rattle.vos_path.proofs.AkeyWrites.{put_lacks, put_spends}
use Rattle.vos_path.proofs.DkeyWrites.{object_at, object_holds, object_roots_are, object_small, objects_still, objects_written}
use Rattle.vos_path.proofs.Forming.{object_some}
use Rattle.vos_path.proofs.Putting.{tree_of}
use Rattle.vos_path.proofs.Lists.{some_same}
use Rattle.vos_path.proofs.NewVersions.{object_new}
use Rattle.vos_path.proofs.objects.write_objects.Goals as goal

pub returns-in_default-clause-written : goal.returns-in_default-clause-written
returns-in_default-clause-written g c told x held at new =
    let o = object_some c.args.write.now c.requires.form in
    let none : (write_path c.args.write.now).obj ≡ None = ap (λ p. p.obj) (sym c.path.ensures) ∙ c.in_default.is in
    let some = o.1.obj in
    absurd (let n : ⊥ = cc in n)

pub find_roots-requires-clause-tree : goal.find_roots-requires-clause-tree
find_roots-requires-clause-tree g c told =
    let s = c.requires.here told in
    (s.0.0, (tree_of object_level (g.P.Pages.blocks c.args.pages.now) c.args.objects.now.kind c.args.objects.now.root s.0 c.requires.kind s.1.0 s.1.1.0, tt))

pub write_object-requires-clause-here : goal.write_object-requires-clause-here
write_object-requires-clause-here g c told =
    let s = c.requires.here told in
    let held = s.1.0 in
    let at = s.1.1.0 in
    let ob : ObjectKey = record { cont = c.path-2.result.now.cont; obj = c.in-Some.obj } in
    let is_at : IsAtObject ob (write_path c.args.write.now) = record { cont = ap (λ p. p.cont) (sym c.path-2.ensures); obj = ap (λ p. p.obj) (sym c.path.ensures) ∙ c.in-Some.is } in
    let is_name = c.key_of_object-key.ensures.object in
    let m = g.P.Pages.blocks c.args.pages.now in
    let e = c.find_roots.ensures.kept told in
    let tree = tree_of object_level m c.args.objects.now.kind c.args.objects.now.root s.0 c.requires.kind held at in
    let roots = object_roots_are m s.0 held ob c.key_of_object-key.result c.key_of_object-key.ensures.key c.in_ok-found.found (c.in_ok-found.ensures.found told s.0.0 tree) c.roots_or_zero.result c.roots_or_zero.ensures in
    let stands = subst (λ b. Holds (below_owner dkey_level) b (below_or_none (object_at ob s.0))) (sym e) (object_holds m s.0 ob held) in
    (below_or_none (object_at ob s.0), (stands, (roots, (object_new c.args.stamp c.args.write.now m s.0 ob held is_name is_at s.1.1.1))))

pub returns-in_err-roots-clause-too_much : goal.returns-in_err-roots-clause-too_much
returns-in_err-roots-clause-too_much g c refused told x held at new d small =
    let is : c.from_residual-in_err-roots.result ≡ Err c.in_err-roots.field-0.0 = search rules in
    let ob : ObjectKey = record { cont = c.path-2.result.now.cont; obj = c.in-Some.obj } in
    let is_at : IsAtObject ob (write_path c.args.write.now) = record { cont = ap (λ p. p.cont) (sym c.path-2.ensures); obj = ap (λ p. p.obj) (sym c.path.ensures) ∙ c.in-Some.is } in
    let is_name = c.key_of_object-key.ensures.object in
    let m = g.P.Pages.blocks c.args.pages.now in
    let e = c.find_roots.ensures.kept told in
    let tree = tree_of object_level m c.args.objects.now.kind c.args.objects.now.root x c.requires.kind held at in
    let roots = object_roots_are m x held ob c.key_of_object-key.result c.key_of_object-key.ensures.key c.in_ok-found.found (c.in_ok-found.ensures.found told x.0 tree) c.roots_or_zero.result c.roots_or_zero.ensures in
    let stands = subst (λ b. Holds (below_owner dkey_level) b (below_or_none (object_at ob x))) (sym e) (object_holds m x ob held) in
    subst (LacksFor (data_blocks c.args.write.now) (below_object_pairs c.args.write.now (for_pair d)) d) c.find_roots.ensures.budget (c.in_err-roots.ensures.too_much (err_other c.in_err-roots.field-0.0 TooMuch (subst (λ z. IsErrOf z TooMuch) is refused)) told (below_or_none (object_at ob x)) stands roots (object_new c.args.stamp c.args.write.now m x ob held is_name is_at new) d (object_small d x ob (write_path c.args.write.now) is_at small))

pub returns-in_err-roots-clause-few_left : goal.returns-in_err-roots-clause-few_left
returns-in_err-roots-clause-few_left g c refused told x held at new d small =
    let is : c.from_residual-in_err-roots.result ≡ Err c.in_err-roots.field-0.0 = search rules in
    let ob : ObjectKey = record { cont = c.path-2.result.now.cont; obj = c.in-Some.obj } in
    let is_at : IsAtObject ob (write_path c.args.write.now) = record { cont = ap (λ p. p.cont) (sym c.path-2.ensures); obj = ap (λ p. p.obj) (sym c.path.ensures) ∙ c.in-Some.is } in
    let is_name = c.key_of_object-key.ensures.object in
    let m = g.P.Pages.blocks c.args.pages.now in
    let e = c.find_roots.ensures.kept told in
    let tree = tree_of object_level m c.args.objects.now.kind c.args.objects.now.root x c.requires.kind held at in
    let roots = object_roots_are m x held ob c.key_of_object-key.result c.key_of_object-key.ensures.key c.in_ok-found.found (c.in_ok-found.ensures.found told x.0 tree) c.roots_or_zero.result c.roots_or_zero.ensures in
    let stands = subst (λ b. Holds (below_owner dkey_level) b (below_or_none (object_at ob x))) (sym e) (object_holds m x ob held) in
    c.in_err-roots.ensures.few_left (err_other c.in_err-roots.field-0.0 TooMuch (subst (λ z. IsErrOf z TooMuch) is refused)) told (below_or_none (object_at ob x)) stands roots (object_new c.args.stamp c.args.write.now m x ob held is_name is_at new) d (object_small d x ob (write_path c.args.write.now) is_at small)

pub set-requires-clause-tree : goal.set-requires-clause-tree
set-requires-clause-tree g c told =
    let s = c.requires.here told in
    let held = s.1.0 in
    let at = s.1.1.0 in
    let ob : ObjectKey = record { cont = c.path-2.result.now.cont; obj = c.in-Some.obj } in
    let is_at : IsAtObject ob (write_path c.args.write.now) = record { cont = ap (λ p. p.cont) (sym c.path-2.ensures); obj = ap (λ p. p.obj) (sym c.path.ensures) ∙ c.in-Some.is } in
    let is_name = c.key_of_object-key.ensures.object in
    let m = g.P.Pages.blocks c.args.pages.now in
    let e = c.find_roots.ensures.kept told in
    let tree = tree_of object_level m c.args.objects.now.kind c.args.objects.now.root s.0 c.requires.kind held at in
    let roots = object_roots_are m s.0 held ob c.key_of_object-key.result c.key_of_object-key.ensures.key c.in_ok-found.found (c.in_ok-found.ensures.found told s.0.0 tree) c.roots_or_zero.result c.roots_or_zero.ensures in
    let stands = subst (λ b. Holds (below_owner dkey_level) b (below_or_none (object_at ob s.0))) (sym e) (object_holds m s.0 ob held) in
    let t = subst (λ b. Turns (below_owner dkey_level) below_roots (below_object_versions ob) b (below_or_none (object_at ob s.0)) (g.P.Pages.blocks c.write_object.new.pages) c.in_ok-roots.roots (HasMore (fresh c.args.stamp c.args.write.now)) (ObjectNoted c.args.stamp c.args.write.now (write_path c.args.write.now).dkey (write_path c.args.write.now).akey)) e (c.in_ok-roots.ensures.written told (below_or_none (object_at ob s.0)) stands roots (object_new c.args.stamp c.args.write.now m s.0 ob held is_name is_at s.1.1.1) ob is_at) in
    let still = objects_still m (g.P.Pages.blocks c.write_object.new.pages) s.0 held ob is_name (fresh c.args.stamp c.args.write.now) (ObjectNoted c.args.stamp c.args.write.now (write_path c.args.write.now).dkey (write_path c.args.write.now).akey) c.in_ok-roots.roots t c.args.objects.now.root at in
    let tree2 = subst (λ z. IsTree (g.P.Pages.blocks c.write_object.new.pages) z c.args.objects.now.root s.0.0) (sym c.requires.kind) still in
    (s.0.0, (tree2, tt))

pub returns-clause-written : goal.returns-clause-written
returns-clause-written g c = on_ok_then c.set.result (λ h told x held at new named_so at_path.
    let ob : ObjectKey = record { cont = c.path-2.result.now.cont; obj = c.in-Some.obj } in
    let is_at : IsAtObject ob (write_path c.args.write.now) = record { cont = ap (λ p. p.cont) (sym c.path-2.ensures); obj = ap (λ p. p.obj) (sym c.path.ensures) ∙ c.in-Some.is } in
    let is_name = c.key_of_object-key.ensures.object in
    let m = g.P.Pages.blocks c.args.pages.now in
    let e = c.find_roots.ensures.kept told in
    let tree = tree_of object_level m c.args.objects.now.kind c.args.objects.now.root x c.requires.kind held at in
    let roots = object_roots_are m x held ob c.key_of_object-key.result c.key_of_object-key.ensures.key c.in_ok-found.found (c.in_ok-found.ensures.found told x.0 tree) c.roots_or_zero.result c.roots_or_zero.ensures in
    let stands = subst (λ b. Holds (below_owner dkey_level) b (below_or_none (object_at ob x))) (sym e) (object_holds m x ob held) in
    let t = subst (λ b. Turns (below_owner dkey_level) below_roots (below_object_versions ob) b (below_or_none (object_at ob x)) (g.P.Pages.blocks c.write_object.new.pages) c.in_ok-roots.roots (HasMore (fresh c.args.stamp c.args.write.now)) (ObjectNoted c.args.stamp c.args.write.now (write_path c.args.write.now).dkey (write_path c.args.write.now).akey)) e (c.in_ok-roots.ensures.written told (below_or_none (object_at ob x)) stands roots (object_new c.args.stamp c.args.write.now m x ob held is_name is_at new) ob is_at) in
    let still = objects_still m (g.P.Pages.blocks c.write_object.new.pages) x held ob is_name (fresh c.args.stamp c.args.write.now) (ObjectNoted c.args.stamp c.args.write.now (write_path c.args.write.now).dkey (write_path c.args.write.now).akey) c.in_ok-roots.roots t c.args.objects.now.root at in
    let tree2 = subst (λ z. IsTree (g.P.Pages.blocks c.write_object.new.pages) z c.args.objects.now.root x.0) (sym c.requires.kind) still in
    let o = g.P.Pages.blocks c.set.new.pages in
    let root = c.set.new.self.root in
    let put = h told x.0 tree2 in
    let put2 : PutAt (g.P.Pages.blocks c.write_object.new.pages) 1 x.0 (object_key ob) (roots_value c.in_ok-roots.roots) o root = subst (λ z. PutAt (g.P.Pages.blocks c.write_object.new.pages) 1 x.0 (object_key ob) z o root) c.roots_value.ensures.value (subst (λ z. PutAt (g.P.Pages.blocks c.write_object.new.pages) 1 x.0 z c.roots_value.result o root) c.key_of_object-key.ensures.key (subst (λ z. PutAt (g.P.Pages.blocks c.write_object.new.pages) z x.0 c.key_of_object-key.result c.roots_value.result o root) c.requires.kind put)) in
    let is : ob ≡ named_so = λ i. record { cont = (sym is_at.cont ∙ at_path.cont) i; obj = some_same ob.obj named_so.obj (sym is_at.obj ∙ at_path.obj) i } in
    subst (λ z. Turns objects_owner hung_root objects_versions m x o root (HasMore (fresh c.args.stamp c.args.write.now)) (ObjectsNoted c.args.stamp c.args.write.now z (write_path c.args.write.now).dkey (write_path c.args.write.now).akey)) is
    (objects_written m (g.P.Pages.blocks c.write_object.new.pages) x held ob is_name (fresh c.args.stamp c.args.write.now) (write_path c.args.write.now).dkey (write_path c.args.write.now).akey c.args.write.now c.args.stamp c.in_ok-roots.roots t o root put2)) c.set.ensures.set

pub returns-clause-too_much : goal.returns-clause-too_much
returns-clause-too_much g c refused told x held at new d small =
    let ob : ObjectKey = record { cont = c.path-2.result.now.cont; obj = c.in-Some.obj } in
    let is_at : IsAtObject ob (write_path c.args.write.now) = record { cont = ap (λ p. p.cont) (sym c.path-2.ensures); obj = ap (λ p. p.obj) (sym c.path.ensures) ∙ c.in-Some.is } in
    let is_name = c.key_of_object-key.ensures.object in
    let m = g.P.Pages.blocks c.args.pages.now in
    let e = c.find_roots.ensures.kept told in
    let tree = tree_of object_level m c.args.objects.now.kind c.args.objects.now.root x c.requires.kind held at in
    let roots = object_roots_are m x held ob c.key_of_object-key.result c.key_of_object-key.ensures.key c.in_ok-found.found (c.in_ok-found.ensures.found told x.0 tree) c.roots_or_zero.result c.roots_or_zero.ensures in
    let stands = subst (λ b. Holds (below_owner dkey_level) b (below_or_none (object_at ob x))) (sym e) (object_holds m x ob held) in
    let t = subst (λ b. Turns (below_owner dkey_level) below_roots (below_object_versions ob) b (below_or_none (object_at ob x)) (g.P.Pages.blocks c.write_object.new.pages) c.in_ok-roots.roots (HasMore (fresh c.args.stamp c.args.write.now)) (ObjectNoted c.args.stamp c.args.write.now (write_path c.args.write.now).dkey (write_path c.args.write.now).akey)) e (c.in_ok-roots.ensures.written told (below_or_none (object_at ob x)) stands roots (object_new c.args.stamp c.args.write.now m x ob held is_name is_at new) ob is_at) in
    let still = objects_still m (g.P.Pages.blocks c.write_object.new.pages) x held ob is_name (fresh c.args.stamp c.args.write.now) (ObjectNoted c.args.stamp c.args.write.now (write_path c.args.write.now).dkey (write_path c.args.write.now).akey) c.in_ok-roots.roots t c.args.objects.now.root at in
    let tree2 = subst (λ z. IsTree (g.P.Pages.blocks c.write_object.new.pages) z c.args.objects.now.root x.0) (sym c.requires.kind) still in
    let spent = subst (λ b. SpendsAtMost (data_blocks c.args.write.now) (below_object_pairs c.args.write.now (for_pair d)) b (g.P.Pages.budget c.write_object.new.pages)) c.find_roots.ensures.budget (c.in_ok-roots.ensures.staged told (below_or_none (object_at ob x)) stands roots (object_new c.args.stamp c.args.write.now m x ob held is_name is_at new) d (object_small d x ob (write_path c.args.write.now) is_at small)) in
    put_lacks (data_blocks c.args.write.now) (below_object_pairs c.args.write.now (for_pair d)) d x (g.P.Pages.budget c.args.pages.now) (g.P.Pages.budget c.write_object.new.pages) (small ob is_at).0 spent (c.set.ensures.too_much refused told x.0 tree2)

pub returns-clause-few_left : goal.returns-clause-few_left
returns-clause-few_left g c refused told x held at new d small =
    let ob : ObjectKey = record { cont = c.path-2.result.now.cont; obj = c.in-Some.obj } in
    let is_at : IsAtObject ob (write_path c.args.write.now) = record { cont = ap (λ p. p.cont) (sym c.path-2.ensures); obj = ap (λ p. p.obj) (sym c.path.ensures) ∙ c.in-Some.is } in
    let is_name = c.key_of_object-key.ensures.object in
    let m = g.P.Pages.blocks c.args.pages.now in
    let e = c.find_roots.ensures.kept told in
    let tree = tree_of object_level m c.args.objects.now.kind c.args.objects.now.root x c.requires.kind held at in
    let roots = object_roots_are m x held ob c.key_of_object-key.result c.key_of_object-key.ensures.key c.in_ok-found.found (c.in_ok-found.ensures.found told x.0 tree) c.roots_or_zero.result c.roots_or_zero.ensures in
    let stands = subst (λ b. Holds (below_owner dkey_level) b (below_or_none (object_at ob x))) (sym e) (object_holds m x ob held) in
    let t = subst (λ b. Turns (below_owner dkey_level) below_roots (below_object_versions ob) b (below_or_none (object_at ob x)) (g.P.Pages.blocks c.write_object.new.pages) c.in_ok-roots.roots (HasMore (fresh c.args.stamp c.args.write.now)) (ObjectNoted c.args.stamp c.args.write.now (write_path c.args.write.now).dkey (write_path c.args.write.now).akey)) e (c.in_ok-roots.ensures.written told (below_or_none (object_at ob x)) stands roots (object_new c.args.stamp c.args.write.now m x ob held is_name is_at new) ob is_at) in
    let still = objects_still m (g.P.Pages.blocks c.write_object.new.pages) x held ob is_name (fresh c.args.stamp c.args.write.now) (ObjectNoted c.args.stamp c.args.write.now (write_path c.args.write.now).dkey (write_path c.args.write.now).akey) c.in_ok-roots.roots t c.args.objects.now.root at in
    let tree2 = subst (λ z. IsTree (g.P.Pages.blocks c.write_object.new.pages) z c.args.objects.now.root x.0) (sym c.requires.kind) still in
    c.set.ensures.few_left refused told x.0 tree2 d (small ob is_at).0

pub returns-clause-staged : goal.returns-clause-staged
returns-clause-staged g c = on_ok_then c.set.result (λ h told x held at new d small.
    let ob : ObjectKey = record { cont = c.path-2.result.now.cont; obj = c.in-Some.obj } in
    let is_at : IsAtObject ob (write_path c.args.write.now) = record { cont = ap (λ p. p.cont) (sym c.path-2.ensures); obj = ap (λ p. p.obj) (sym c.path.ensures) ∙ c.in-Some.is } in
    let is_name = c.key_of_object-key.ensures.object in
    let m = g.P.Pages.blocks c.args.pages.now in
    let e = c.find_roots.ensures.kept told in
    let tree = tree_of object_level m c.args.objects.now.kind c.args.objects.now.root x c.requires.kind held at in
    let roots = object_roots_are m x held ob c.key_of_object-key.result c.key_of_object-key.ensures.key c.in_ok-found.found (c.in_ok-found.ensures.found told x.0 tree) c.roots_or_zero.result c.roots_or_zero.ensures in
    let stands = subst (λ b. Holds (below_owner dkey_level) b (below_or_none (object_at ob x))) (sym e) (object_holds m x ob held) in
    let t = subst (λ b. Turns (below_owner dkey_level) below_roots (below_object_versions ob) b (below_or_none (object_at ob x)) (g.P.Pages.blocks c.write_object.new.pages) c.in_ok-roots.roots (HasMore (fresh c.args.stamp c.args.write.now)) (ObjectNoted c.args.stamp c.args.write.now (write_path c.args.write.now).dkey (write_path c.args.write.now).akey)) e (c.in_ok-roots.ensures.written told (below_or_none (object_at ob x)) stands roots (object_new c.args.stamp c.args.write.now m x ob held is_name is_at new) ob is_at) in
    let still = objects_still m (g.P.Pages.blocks c.write_object.new.pages) x held ob is_name (fresh c.args.stamp c.args.write.now) (ObjectNoted c.args.stamp c.args.write.now (write_path c.args.write.now).dkey (write_path c.args.write.now).akey) c.in_ok-roots.roots t c.args.objects.now.root at in
    let tree2 = subst (λ z. IsTree (g.P.Pages.blocks c.write_object.new.pages) z c.args.objects.now.root x.0) (sym c.requires.kind) still in
    let spent = subst (λ b. SpendsAtMost (data_blocks c.args.write.now) (below_object_pairs c.args.write.now (for_pair d)) b (g.P.Pages.budget c.write_object.new.pages)) c.find_roots.ensures.budget (c.in_ok-roots.ensures.staged told (below_or_none (object_at ob x)) stands roots (object_new c.args.stamp c.args.write.now m x ob held is_name is_at new) d (object_small d x ob (write_path c.args.write.now) is_at small)) in
    put_spends (data_blocks c.args.write.now) (below_object_pairs c.args.write.now (for_pair d)) d x (g.P.Pages.budget c.args.pages.now) (g.P.Pages.budget c.write_object.new.pages) (g.P.Pages.budget c.set.new.pages) (small ob is_at).0 spent (h told x.0 tree2)) c.set.ensures.staged
