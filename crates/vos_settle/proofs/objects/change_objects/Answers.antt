use Rattle.std.proofs.Common.{rules, ◌≡◌, ◌∙◌, Err, IsErrOf, ap, arith, subst, sym}
use Rattle.pmem_pages.specs.Owners.{Holds}
use Rattle.pmem_pages.specs.Shape.{IsTree}
use Rattle.pmem_tree.specs.Changes.{Puts}
use Rattle.pmem_tree_base.specs.declared.refusal.TreeNo.TheVariants.{TooMuch}
use Rattle.vos_values.specs.declared.keys.Layout.TheVariants.{Two}
use Rattle.vos_values.specs.Keys.{IsObjectKey, object_key}
use Rattle.vos_values.specs.Values.{roots_value}
use Rattle.vos_levels.specs.Levels.{things}
use Rattle.vos_levels.proofs.Calls.{on_ok_then}
use Rattle.vos_path.proofs.vos_versions.Marks.{err_other, short_any}
use Rattle.vos_path.specs.Objects.{below_owner, below_roots, dkey_level, object_level, or_none}
use Rattle.vos_path.specs.Small.{BelowObjectOnPathIsSmall}
use Rattle.vos_path.proofs.Putting.{tree_of}
use Rattle.vos_settle.specs.Costs.{Lacks, Spends, below_object_cost, objects_cost, for_one}
use Rattle.vos_settle.specs.Nodes.{ObjectTurn, is_object, object_freed, Turned}
use Rattle.vos_settle.proofs.Lists.{passing_one}
use Rattle.vos_settle.proofs.NodeTurns.{branch_entry, branch_holds, branch_is, branch_is_none, branches_stay, branches_still, branches_turned}
use Rattle.vos_settle.proofs.Puts.{roots_are_so, roots_same}
use Rattle.vos_settle.proofs.Sums.{lacks_more, lacks_put, spends_most, spends_then}
use Rattle.vos_settle.proofs.objects.change_objects.Goals as goal

pub find_roots-requires-clause-tree : goal.find_roots-requires-clause-tree
find_roots-requires-clause-tree g c told =
    let s = c.requires.here told in
    (s.0.0, (tree_of object_level (g.P.Pages.blocks c.args.pages.now) c.args.objects.now.kind c.args.objects.now.root s.0 c.requires.kind s.1.0 s.1.1.0, tt))

pub returns-in_default-clause-changed : goal.returns-in_default-clause-changed
returns-in_default-clause-changed g c told x held at =
    let m = g.P.Pages.blocks c.args.pages.now in
    let tree = tree_of object_level m c.args.objects.now.kind c.args.objects.now.root x c.requires.kind held at in
    let none = branch_is_none 1 object_key (IsObjectKey Two) dkey_level (object_key c.args.object) m x held c.key_of_object-key.result c.key_of_object-key.ensures.key c.in_ok-was.field-0 (c.in_ok-was.ensures.found told x.0 tree) c.in_default.is in
    branches_stay 1 object_key (IsObjectKey Two) dkey_level (object_key c.args.object) m x held (ObjectTurn c.args.task c.args.path.now.dkey c.args.path.now.akey) (g.P.Pages.blocks c.find_roots.new.pages) c.args.objects.now.root (c.find_roots.ensures.kept told) at none

pub returns-in_default-clause-free : goal.returns-in_default-clause-free
returns-in_default-clause-free g c told x held at =
    let m = g.P.Pages.blocks c.args.pages.now in
    let tree = tree_of object_level m c.args.objects.now.kind c.args.objects.now.root x c.requires.kind held at in
    let none = branch_is_none 1 object_key (IsObjectKey Two) dkey_level (object_key c.args.object) m x held c.key_of_object-key.result c.key_of_object-key.ensures.key c.in_ok-was.field-0 (c.in_ok-was.ensures.found told x.0 tree) c.in_default.is in
    let zero = ap (or_none (object_freed c.args.task c.args.path.now) 0) none in
    let same = ap (λ b. b.free) c.find_roots.ensures.budget in
    omega (arith, zero, same)

pub change_object-requires-clause-here : goal.change_object-requires-clause-here
change_object-requires-clause-here g c told =
    let s = c.requires.here told in
    let m = g.P.Pages.blocks c.args.pages.now in
    let e = c.find_roots.ensures.kept told in
    let tree = tree_of object_level m c.args.objects.now.kind c.args.objects.now.root s.0 c.requires.kind s.1.0 s.1.1.0 in
    let k = branch_is 1 object_key (IsObjectKey Two) dkey_level (object_key c.args.object) m s.0 s.1.0 c.key_of_object-key.result c.key_of_object-key.ensures.key c.in_ok-was.field-0 (c.in_ok-was.ensures.found told s.0.0 tree) c.in-Some.was c.in-Some.is in
    let stands = subst (λ b. Holds (below_owner dkey_level) b k.thing.holds) (sym e) (branch_holds 1 object_key (IsObjectKey Two) dkey_level (object_key c.args.object) m s.0 s.1.0 k.thing k.found) in
    (k.thing.holds, (stands, (k.is, tt)))

pub returns-in_err-now-clause-too_much : goal.returns-in_err-now-clause-too_much
returns-in_err-now-clause-too_much g c refused told x held at d small =
    let is : c.from_residual-in_err-now.result ≡ Err c.in_err-now.field-0.0 = search rules in
    let m = g.P.Pages.blocks c.args.pages.now in
    let e = c.find_roots.ensures.kept told in
    let tree = tree_of object_level m c.args.objects.now.kind c.args.objects.now.root x c.requires.kind held at in
    let k = branch_is 1 object_key (IsObjectKey Two) dkey_level (object_key c.args.object) m x held c.key_of_object-key.result c.key_of_object-key.ensures.key c.in_ok-was.field-0 (c.in_ok-was.ensures.found told x.0 tree) c.in-Some.was c.in-Some.is in
    let stands = subst (λ b. Holds (below_owner dkey_level) b k.thing.holds) (sym e) (branch_holds 1 object_key (IsObjectKey Two) dkey_level (object_key c.args.object) m x held k.thing k.found) in
    let lacks = c.in_err-now.ensures.too_much (err_other c.in_err-now.field-0.0 TooMuch (subst (λ z. IsErrOf z TooMuch) is refused)) told k.thing.holds stands k.is d (passing_one (λ o. BelowObjectOnPathIsSmall d c.args.path.now.dkey c.args.path.now.akey o.holds) (is_object c.args.object) (things x) k.thing small.1 k.found) in
    lacks_more (below_object_cost c.args.task.kind c.args.path.now.dkey c.args.path.now.akey (for_one d) 1) (objects_cost c.args.task.kind c.args.path.now.dkey c.args.path.now.akey (for_one d) 1) d (g.P.Pages.budget c.args.pages.now) (omega arith) (subst (Lacks (below_object_cost c.args.task.kind c.args.path.now.dkey c.args.path.now.akey (for_one d) 1) d) c.find_roots.ensures.budget lacks)

pub returns-in_err-now-clause-few_left : goal.returns-in_err-now-clause-few_left
returns-in_err-now-clause-few_left g c refused told x held at d small =
    let is : c.from_residual-in_err-now.result ≡ Err c.in_err-now.field-0.0 = search rules in
    let m = g.P.Pages.blocks c.args.pages.now in
    let e = c.find_roots.ensures.kept told in
    let tree = tree_of object_level m c.args.objects.now.kind c.args.objects.now.root x c.requires.kind held at in
    let k = branch_is 1 object_key (IsObjectKey Two) dkey_level (object_key c.args.object) m x held c.key_of_object-key.result c.key_of_object-key.ensures.key c.in_ok-was.field-0 (c.in_ok-was.ensures.found told x.0 tree) c.in-Some.was c.in-Some.is in
    let stands = subst (λ b. Holds (below_owner dkey_level) b k.thing.holds) (sym e) (branch_holds 1 object_key (IsObjectKey Two) dkey_level (object_key c.args.object) m x held k.thing k.found) in
    c.in_err-now.ensures.few_left (err_other c.in_err-now.field-0.0 TooMuch (subst (λ z. IsErrOf z TooMuch) is refused)) told k.thing.holds stands k.is d (passing_one (λ o. BelowObjectOnPathIsSmall d c.args.path.now.dkey c.args.path.now.akey o.holds) (is_object c.args.object) (things x) k.thing small.1 k.found)

pub put_unless-requires-clause-tree : goal.put_unless-requires-clause-tree
put_unless-requires-clause-tree g c told =
    let s = c.requires.here told in
    let m = g.P.Pages.blocks c.args.pages.now in
    let e = c.find_roots.ensures.kept told in
    let tree = tree_of object_level m c.args.objects.now.kind c.args.objects.now.root s.0 c.requires.kind s.1.0 s.1.1.0 in
    let k = branch_is 1 object_key (IsObjectKey Two) dkey_level (object_key c.args.object) m s.0 s.1.0 c.key_of_object-key.result c.key_of_object-key.ensures.key c.in_ok-was.field-0 (c.in_ok-was.ensures.found told s.0.0 tree) c.in-Some.was c.in-Some.is in
    let stands = subst (λ b. Holds (below_owner dkey_level) b k.thing.holds) (sym e) (branch_holds 1 object_key (IsObjectKey Two) dkey_level (object_key c.args.object) m s.0 s.1.0 k.thing k.found) in
    let n = g.P.Pages.blocks c.change_object.new.pages in
    let v = subst (λ b. Turned (below_owner dkey_level) below_roots b k.thing.holds n c.in_ok-now.now (ObjectTurn c.args.task c.args.path.now.dkey c.args.path.now.akey)) e (c.in_ok-now.ensures.changed told k.thing.holds stands k.is) in
    let still = branches_still 1 object_key (IsObjectKey Two) dkey_level (object_key c.args.object) m s.0 s.1.0 k.thing k.found (ObjectTurn c.args.task c.args.path.now.dkey c.args.path.now.akey) n c.in_ok-now.now v c.args.objects.now.root s.1.1.0 in
    let tree2 = subst (λ z. IsTree n z c.args.objects.now.root s.0.0) (sym c.requires.kind) still in
    let entry = branch_entry 1 object_key (IsObjectKey Two) dkey_level (object_key c.args.object) m s.0 s.1.0 k.thing k.found c.key_of_object-key.result c.key_of_object-key.ensures.key in
    (s.0.0, (tree2, (entry.0, entry.1.0)))

pub returns-clause-changed : goal.returns-clause-changed
returns-clause-changed g c = on_ok_then c.put_unless.result (λ h told x held at.
    let m = g.P.Pages.blocks c.args.pages.now in
    let e = c.find_roots.ensures.kept told in
    let tree = tree_of object_level m c.args.objects.now.kind c.args.objects.now.root x c.requires.kind held at in
    let k = branch_is 1 object_key (IsObjectKey Two) dkey_level (object_key c.args.object) m x held c.key_of_object-key.result c.key_of_object-key.ensures.key c.in_ok-was.field-0 (c.in_ok-was.ensures.found told x.0 tree) c.in-Some.was c.in-Some.is in
    let stands = subst (λ b. Holds (below_owner dkey_level) b k.thing.holds) (sym e) (branch_holds 1 object_key (IsObjectKey Two) dkey_level (object_key c.args.object) m x held k.thing k.found) in
    let n = g.P.Pages.blocks c.change_object.new.pages in
    let v = subst (λ b. Turned (below_owner dkey_level) below_roots b k.thing.holds n c.in_ok-now.now (ObjectTurn c.args.task c.args.path.now.dkey c.args.path.now.akey)) e (c.in_ok-now.ensures.changed told k.thing.holds stands k.is) in
    let still = branches_still 1 object_key (IsObjectKey Two) dkey_level (object_key c.args.object) m x held k.thing k.found (ObjectTurn c.args.task c.args.path.now.dkey c.args.path.now.akey) n c.in_ok-now.now v c.args.objects.now.root at in
    let tree2 = subst (λ z. IsTree n z c.args.objects.now.root x.0) (sym c.requires.kind) still in
    let entry = branch_entry 1 object_key (IsObjectKey Two) dkey_level (object_key c.args.object) m x held k.thing k.found c.key_of_object-key.result c.key_of_object-key.ensures.key in
    let o = g.P.Pages.blocks c.put_unless.new.pages in
    let root = c.put_unless.new.tree.root in
    let put = h told x.0 tree2 entry.0 entry.1.0 (λ had. entry.1.1 ∙ (ap roots_value (sym k.is) ∙ (ap roots_value (roots_same c.in-Some.was c.in_ok-now.now (sym c.are_roots-had.ensures ∙ had)) ∙ sym c.roots_value.ensures.value))) in
    let put2 : Puts n 1 x.0 (object_key c.args.object) (roots_value c.in_ok-now.now) o root = subst (λ z. Puts n 1 x.0 (object_key c.args.object) z o root) c.roots_value.ensures.value (subst (λ z. Puts n 1 x.0 z c.roots_value.result o root) c.key_of_object-key.ensures.key (subst (λ z. Puts n z x.0 c.key_of_object-key.result c.roots_value.result o root) c.requires.kind put)) in
    branches_turned 1 object_key (IsObjectKey Two) dkey_level (object_key c.args.object) m x held k.thing k.found (ObjectTurn c.args.task c.args.path.now.dkey c.args.path.now.akey) n c.in_ok-now.now v o root put2) c.put_unless.ensures.put

pub returns-clause-too_much : goal.returns-clause-too_much
returns-clause-too_much g c refused told x held at d small =
    let m = g.P.Pages.blocks c.args.pages.now in
    let e = c.find_roots.ensures.kept told in
    let tree = tree_of object_level m c.args.objects.now.kind c.args.objects.now.root x c.requires.kind held at in
    let k = branch_is 1 object_key (IsObjectKey Two) dkey_level (object_key c.args.object) m x held c.key_of_object-key.result c.key_of_object-key.ensures.key c.in_ok-was.field-0 (c.in_ok-was.ensures.found told x.0 tree) c.in-Some.was c.in-Some.is in
    let stands = subst (λ b. Holds (below_owner dkey_level) b k.thing.holds) (sym e) (branch_holds 1 object_key (IsObjectKey Two) dkey_level (object_key c.args.object) m x held k.thing k.found) in
    let n = g.P.Pages.blocks c.change_object.new.pages in
    let v = subst (λ b. Turned (below_owner dkey_level) below_roots b k.thing.holds n c.in_ok-now.now (ObjectTurn c.args.task c.args.path.now.dkey c.args.path.now.akey)) e (c.in_ok-now.ensures.changed told k.thing.holds stands k.is) in
    let still = branches_still 1 object_key (IsObjectKey Two) dkey_level (object_key c.args.object) m x held k.thing k.found (ObjectTurn c.args.task c.args.path.now.dkey c.args.path.now.akey) n c.in_ok-now.now v c.args.objects.now.root at in
    let tree2 = subst (λ z. IsTree n z c.args.objects.now.root x.0) (sym c.requires.kind) still in
    let entry = branch_entry 1 object_key (IsObjectKey Two) dkey_level (object_key c.args.object) m x held k.thing k.found c.key_of_object-key.result c.key_of_object-key.ensures.key in
    let spent = subst (λ b. Spends (below_object_cost c.args.task.kind c.args.path.now.dkey c.args.path.now.akey (for_one d) 1) b (g.P.Pages.budget c.change_object.new.pages)) c.find_roots.ensures.budget (c.in_ok-now.ensures.staged told k.thing.holds stands k.is d (passing_one (λ o. BelowObjectOnPathIsSmall d c.args.path.now.dkey c.args.path.now.akey o.holds) (is_object c.args.object) (things x) k.thing small.1 k.found)) in
    lacks_put (below_object_cost c.args.task.kind c.args.path.now.dkey c.args.path.now.akey (for_one d) 1) d (g.P.Pages.budget c.args.pages.now) (g.P.Pages.budget c.change_object.new.pages) spent (c.put_unless.ensures.too_much refused)

pub returns-clause-few_left : goal.returns-clause-few_left
returns-clause-few_left g c refused told x held at d small =
    short_any 1 256 d (g.P.Pages.budget c.put_unless.new.pages) (omega arith) (omega arith) (c.put_unless.ensures.few_left refused)

pub returns-clause-staged : goal.returns-clause-staged
returns-clause-staged g c = on_ok_then c.put_unless.result (λ h told x held at d small.
    let m = g.P.Pages.blocks c.args.pages.now in
    let e = c.find_roots.ensures.kept told in
    let tree = tree_of object_level m c.args.objects.now.kind c.args.objects.now.root x c.requires.kind held at in
    let k = branch_is 1 object_key (IsObjectKey Two) dkey_level (object_key c.args.object) m x held c.key_of_object-key.result c.key_of_object-key.ensures.key c.in_ok-was.field-0 (c.in_ok-was.ensures.found told x.0 tree) c.in-Some.was c.in-Some.is in
    let stands = subst (λ b. Holds (below_owner dkey_level) b k.thing.holds) (sym e) (branch_holds 1 object_key (IsObjectKey Two) dkey_level (object_key c.args.object) m x held k.thing k.found) in
    let n = g.P.Pages.blocks c.change_object.new.pages in
    let v = subst (λ b. Turned (below_owner dkey_level) below_roots b k.thing.holds n c.in_ok-now.now (ObjectTurn c.args.task c.args.path.now.dkey c.args.path.now.akey)) e (c.in_ok-now.ensures.changed told k.thing.holds stands k.is) in
    let still = branches_still 1 object_key (IsObjectKey Two) dkey_level (object_key c.args.object) m x held k.thing k.found (ObjectTurn c.args.task c.args.path.now.dkey c.args.path.now.akey) n c.in_ok-now.now v c.args.objects.now.root at in
    let tree2 = subst (λ z. IsTree n z c.args.objects.now.root x.0) (sym c.requires.kind) still in
    let entry = branch_entry 1 object_key (IsObjectKey Two) dkey_level (object_key c.args.object) m x held k.thing k.found c.key_of_object-key.result c.key_of_object-key.ensures.key in
    let spent = subst (λ b. Spends (below_object_cost c.args.task.kind c.args.path.now.dkey c.args.path.now.akey (for_one d) 1) b (g.P.Pages.budget c.change_object.new.pages)) c.find_roots.ensures.budget (c.in_ok-now.ensures.staged told k.thing.holds stands k.is d (passing_one (λ o. BelowObjectOnPathIsSmall d c.args.path.now.dkey c.args.path.now.akey o.holds) (is_object c.args.object) (things x) k.thing small.1 k.found)) in
    spends_then (below_object_cost c.args.task.kind c.args.path.now.dkey c.args.path.now.akey (for_one d) 1) 1 (g.P.Pages.budget c.args.pages.now) (g.P.Pages.budget c.change_object.new.pages) (g.P.Pages.budget c.put_unless.new.pages) spent c.put_unless.ensures.staged) c.put_unless.ensures.went_on

pub returns-clause-committed : goal.returns-clause-committed
returns-clause-committed g c kept =
    let had = c.are_roots-had.ensures ∙ roots_are_so c.in-Some.was c.in_ok-now.now (c.in_ok-now.ensures.root kept) in
    let b0 = g.P.Pages.budget c.args.pages.now in
    let spent = subst (λ b. Spends (below_object_cost c.args.task.kind c.args.path.now.dkey c.args.path.now.akey 1 0) b (g.P.Pages.budget c.change_object.new.pages)) c.find_roots.ensures.budget (c.in_ok-now.ensures.committed kept) in
    let still = subst (λ b. Spends (below_object_cost c.args.task.kind c.args.path.now.dkey c.args.path.now.akey 1 0) b0 b) (sym (c.put_unless.ensures.had had)) spent in
    spends_most (below_object_cost c.args.task.kind c.args.path.now.dkey c.args.path.now.akey 1 0) (objects_cost c.args.task.kind c.args.path.now.dkey c.args.path.now.akey 1 0) b0 (g.P.Pages.budget c.put_unless.new.pages) (omega arith) still

pub returns-clause-free : goal.returns-clause-free
returns-clause-free g c = on_ok_then c.put_unless.result (λ h told x held at.
    let m = g.P.Pages.blocks c.args.pages.now in
    let e = c.find_roots.ensures.kept told in
    let tree = tree_of object_level m c.args.objects.now.kind c.args.objects.now.root x c.requires.kind held at in
    let k = branch_is 1 object_key (IsObjectKey Two) dkey_level (object_key c.args.object) m x held c.key_of_object-key.result c.key_of_object-key.ensures.key c.in_ok-was.field-0 (c.in_ok-was.ensures.found told x.0 tree) c.in-Some.was c.in-Some.is in
    let stands = subst (λ b. Holds (below_owner dkey_level) b k.thing.holds) (sym e) (branch_holds 1 object_key (IsObjectKey Two) dkey_level (object_key c.args.object) m x held k.thing k.found) in
    let one = c.in_ok-now.ensures.free told k.thing.holds stands k.is in
    let two = ap (λ b. b.free) c.find_roots.ensures.budget in
    let three = ap (or_none (object_freed c.args.task c.args.path.now) 0) k.found in
    let put = c.put_unless.ensures.free in
    omega (arith, one, two, three, put)) c.put_unless.ensures.went_on
