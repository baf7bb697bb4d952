use Rattle.std.proofs.Common.{rules, ◌≡◌, ◌∙◌, Err, IsErrOf, ap, arith, subst, sym}
use Rattle.pmem_pages.specs.Owners.{Holds}
use Rattle.pmem_pages.specs.Shape.{IsTree}
use Rattle.pmem_tree.specs.Changes.{Puts}
use Rattle.pmem_tree_base.specs.declared.refusal.TreeNo.TheVariants.{TooMuch}
use Rattle.vos_values.specs.Keys.{name_key}
use Rattle.vos_values.specs.Values.{akey_value}
use Rattle.vos_levels.specs.Levels.{things}
use Rattle.vos_levels.proofs.Calls.{on_ok_then}
use Rattle.vos_path.proofs.vos_versions.Marks.{err_other, short_any}
use Rattle.vos_path.specs.Objects.{akey_level, or_none, values_owner, values_roots}
use Rattle.vos_path.specs.Writes.{AkeyIsSmall}
use Rattle.vos_path.proofs.Putting.{tree_of}
use Rattle.vos_settle.specs.Costs.{Lacks, Spends, akeys_cost, values_cost, for_one}
use Rattle.vos_settle.specs.Nodes.{ValuesTurn, akey_freed, is_akey, Turned}
use Rattle.vos_settle.proofs.Lists.{passing_one}
use Rattle.vos_settle.proofs.NodeTurns.{akey_entry, akey_holds, akey_is, akey_is_none, akeys_stay, akeys_still, akeys_turned}
use Rattle.vos_settle.proofs.Puts.{akey_roots_are, akey_roots_same}
use Rattle.vos_settle.proofs.Sums.{lacks_more, lacks_put, spends_most, spends_then}
use Rattle.vos_settle.proofs.akeys.change_akeys.Goals as goal

pub find_akey-requires-clause-tree : goal.find_akey-requires-clause-tree
find_akey-requires-clause-tree g c told =
    let s = c.requires.here told in
    (s.0.0, (tree_of akey_level (g.P.Pages.blocks c.args.pages.now) c.args.akeys.now.kind c.args.akeys.now.root s.0 c.requires.kind s.1.0 s.1.1.0, tt))

pub returns-in_default-clause-changed : goal.returns-in_default-clause-changed
returns-in_default-clause-changed g c told x held at =
    let m = g.P.Pages.blocks c.args.pages.now in
    let tree = tree_of akey_level m c.args.akeys.now.kind c.args.akeys.now.root x c.requires.kind held at in
    let none = akey_is_none m x held c.args.name.now c.key_of-key.result c.key_of-key.ensures.key c.in_ok-was.field-0 (c.in_ok-was.ensures.found told x.0 tree) c.in_default.is in
    akeys_stay m x held c.args.name.now c.args.task (g.P.Pages.blocks c.find_akey.new.pages) c.args.akeys.now.root (c.find_akey.ensures.kept told) at none

pub returns-in_default-clause-free : goal.returns-in_default-clause-free
returns-in_default-clause-free g c told x held at =
    let m = g.P.Pages.blocks c.args.pages.now in
    let tree = tree_of akey_level m c.args.akeys.now.kind c.args.akeys.now.root x c.requires.kind held at in
    let none = akey_is_none m x held c.args.name.now c.key_of-key.result c.key_of-key.ensures.key c.in_ok-was.field-0 (c.in_ok-was.ensures.found told x.0 tree) c.in_default.is in
    let zero = ap (or_none (akey_freed c.args.task) 0) none in
    let same = ap (λ b. b.free) c.find_akey.ensures.budget in
    omega (arith, zero, same)

pub change_values-requires-clause-here : goal.change_values-requires-clause-here
change_values-requires-clause-here g c told =
    let s = c.requires.here told in
    let m = g.P.Pages.blocks c.args.pages.now in
    let e = c.find_akey.ensures.kept told in
    let tree = tree_of akey_level m c.args.akeys.now.kind c.args.akeys.now.root s.0 c.requires.kind s.1.0 s.1.1.0 in
    let k = akey_is m s.0 s.1.0 c.args.name.now c.key_of-key.result c.key_of-key.ensures.key c.in_ok-was.field-0 (c.in_ok-was.ensures.found told s.0.0 tree) c.in-Some.was c.in-Some.is in
    let stands = subst (λ b. Holds (values_owner) b k.thing.holds) (sym e) (akey_holds m s.0 s.1.0 c.args.name.now k.thing k.found) in
    (k.thing.holds, (stands, (k.is, tt)))

pub returns-in_err-now-clause-too_much : goal.returns-in_err-now-clause-too_much
returns-in_err-now-clause-too_much g c refused told x held at d small =
    let is : c.from_residual-in_err-now.result ≡ Err c.in_err-now.field-0.0 = search rules in
    let m = g.P.Pages.blocks c.args.pages.now in
    let e = c.find_akey.ensures.kept told in
    let tree = tree_of akey_level m c.args.akeys.now.kind c.args.akeys.now.root x c.requires.kind held at in
    let k = akey_is m x held c.args.name.now c.key_of-key.result c.key_of-key.ensures.key c.in_ok-was.field-0 (c.in_ok-was.ensures.found told x.0 tree) c.in-Some.was c.in-Some.is in
    let stands = subst (λ b. Holds (values_owner) b k.thing.holds) (sym e) (akey_holds m x held c.args.name.now k.thing k.found) in
    let lacks = c.in_err-now.ensures.too_much (err_other c.in_err-now.field-0.0 TooMuch (subst (λ z. IsErrOf z TooMuch) is refused)) told k.thing.holds stands k.is d (passing_one (AkeyIsSmall d) (is_akey c.args.name.now) (things x) k.thing small.1 k.found) in
    lacks_more (values_cost c.args.task.kind (for_one d)) (akeys_cost c.args.task.kind (for_one d) 1) d (g.P.Pages.budget c.args.pages.now) (omega arith) (subst (Lacks (values_cost c.args.task.kind (for_one d)) d) c.find_akey.ensures.budget lacks)

pub returns-in_err-now-clause-few_left : goal.returns-in_err-now-clause-few_left
returns-in_err-now-clause-few_left g c refused told x held at d small =
    let is : c.from_residual-in_err-now.result ≡ Err c.in_err-now.field-0.0 = search rules in
    let m = g.P.Pages.blocks c.args.pages.now in
    let e = c.find_akey.ensures.kept told in
    let tree = tree_of akey_level m c.args.akeys.now.kind c.args.akeys.now.root x c.requires.kind held at in
    let k = akey_is m x held c.args.name.now c.key_of-key.result c.key_of-key.ensures.key c.in_ok-was.field-0 (c.in_ok-was.ensures.found told x.0 tree) c.in-Some.was c.in-Some.is in
    let stands = subst (λ b. Holds (values_owner) b k.thing.holds) (sym e) (akey_holds m x held c.args.name.now k.thing k.found) in
    c.in_err-now.ensures.few_left (err_other c.in_err-now.field-0.0 TooMuch (subst (λ z. IsErrOf z TooMuch) is refused)) told k.thing.holds stands k.is d (passing_one (AkeyIsSmall d) (is_akey c.args.name.now) (things x) k.thing small.1 k.found)

pub put_unless-requires-clause-tree : goal.put_unless-requires-clause-tree
put_unless-requires-clause-tree g c told =
    let s = c.requires.here told in
    let m = g.P.Pages.blocks c.args.pages.now in
    let e = c.find_akey.ensures.kept told in
    let tree = tree_of akey_level m c.args.akeys.now.kind c.args.akeys.now.root s.0 c.requires.kind s.1.0 s.1.1.0 in
    let k = akey_is m s.0 s.1.0 c.args.name.now c.key_of-key.result c.key_of-key.ensures.key c.in_ok-was.field-0 (c.in_ok-was.ensures.found told s.0.0 tree) c.in-Some.was c.in-Some.is in
    let stands = subst (λ b. Holds (values_owner) b k.thing.holds) (sym e) (akey_holds m s.0 s.1.0 c.args.name.now k.thing k.found) in
    let n = g.P.Pages.blocks c.change_values.new.pages in
    let v = subst (λ b. Turned (values_owner) values_roots b k.thing.holds n c.in_ok-now.now (ValuesTurn c.args.task)) e (c.in_ok-now.ensures.changed told k.thing.holds stands k.is) in
    let still = akeys_still m s.0 s.1.0 c.args.name.now k.thing k.found c.args.task n c.in_ok-now.now v c.args.akeys.now.root s.1.1.0 in
    let tree2 = subst (λ z. IsTree n z c.args.akeys.now.root s.0.0) (sym c.requires.kind) still in
    let entry = akey_entry m s.0 s.1.0 c.args.name.now k.thing k.found c.key_of-key.result c.key_of-key.ensures.key in
    (s.0.0, (tree2, (entry.0, entry.1.0)))

pub returns-clause-changed : goal.returns-clause-changed
returns-clause-changed g c = on_ok_then c.put_unless.result (λ h told x held at.
    let m = g.P.Pages.blocks c.args.pages.now in
    let e = c.find_akey.ensures.kept told in
    let tree = tree_of akey_level m c.args.akeys.now.kind c.args.akeys.now.root x c.requires.kind held at in
    let k = akey_is m x held c.args.name.now c.key_of-key.result c.key_of-key.ensures.key c.in_ok-was.field-0 (c.in_ok-was.ensures.found told x.0 tree) c.in-Some.was c.in-Some.is in
    let stands = subst (λ b. Holds (values_owner) b k.thing.holds) (sym e) (akey_holds m x held c.args.name.now k.thing k.found) in
    let n = g.P.Pages.blocks c.change_values.new.pages in
    let v = subst (λ b. Turned (values_owner) values_roots b k.thing.holds n c.in_ok-now.now (ValuesTurn c.args.task)) e (c.in_ok-now.ensures.changed told k.thing.holds stands k.is) in
    let still = akeys_still m x held c.args.name.now k.thing k.found c.args.task n c.in_ok-now.now v c.args.akeys.now.root at in
    let tree2 = subst (λ z. IsTree n z c.args.akeys.now.root x.0) (sym c.requires.kind) still in
    let entry = akey_entry m x held c.args.name.now k.thing k.found c.key_of-key.result c.key_of-key.ensures.key in
    let o = g.P.Pages.blocks c.put_unless.new.pages in
    let root = c.put_unless.new.tree.root in
    let put = h told x.0 tree2 entry.0 entry.1.0 (λ had. entry.1.1 ∙ (ap akey_value (sym k.is) ∙ (ap akey_value (akey_roots_same c.in-Some.was c.in_ok-now.now (sym c.are_akey_roots-had.ensures ∙ had)) ∙ sym c.akey_value.ensures.value))) in
    let put2 : Puts n 3 x.0 (name_key c.args.name.now) (akey_value c.in_ok-now.now) o root = subst (λ z. Puts n 3 x.0 (name_key c.args.name.now) z o root) c.akey_value.ensures.value (subst (λ z. Puts n 3 x.0 z c.akey_value.result o root) c.key_of-key.ensures.key (subst (λ z. Puts n z x.0 c.key_of-key.result c.akey_value.result o root) c.requires.kind put)) in
    akeys_turned m x held c.args.name.now k.thing k.found c.args.task n c.in_ok-now.now v o root put2) c.put_unless.ensures.put

pub returns-clause-too_much : goal.returns-clause-too_much
returns-clause-too_much g c refused told x held at d small =
    let m = g.P.Pages.blocks c.args.pages.now in
    let e = c.find_akey.ensures.kept told in
    let tree = tree_of akey_level m c.args.akeys.now.kind c.args.akeys.now.root x c.requires.kind held at in
    let k = akey_is m x held c.args.name.now c.key_of-key.result c.key_of-key.ensures.key c.in_ok-was.field-0 (c.in_ok-was.ensures.found told x.0 tree) c.in-Some.was c.in-Some.is in
    let stands = subst (λ b. Holds (values_owner) b k.thing.holds) (sym e) (akey_holds m x held c.args.name.now k.thing k.found) in
    let n = g.P.Pages.blocks c.change_values.new.pages in
    let v = subst (λ b. Turned (values_owner) values_roots b k.thing.holds n c.in_ok-now.now (ValuesTurn c.args.task)) e (c.in_ok-now.ensures.changed told k.thing.holds stands k.is) in
    let still = akeys_still m x held c.args.name.now k.thing k.found c.args.task n c.in_ok-now.now v c.args.akeys.now.root at in
    let tree2 = subst (λ z. IsTree n z c.args.akeys.now.root x.0) (sym c.requires.kind) still in
    let entry = akey_entry m x held c.args.name.now k.thing k.found c.key_of-key.result c.key_of-key.ensures.key in
    let spent = subst (λ b. Spends (values_cost c.args.task.kind (for_one d)) b (g.P.Pages.budget c.change_values.new.pages)) c.find_akey.ensures.budget (c.in_ok-now.ensures.staged told k.thing.holds stands k.is d (passing_one (AkeyIsSmall d) (is_akey c.args.name.now) (things x) k.thing small.1 k.found)) in
    lacks_put (values_cost c.args.task.kind (for_one d)) d (g.P.Pages.budget c.args.pages.now) (g.P.Pages.budget c.change_values.new.pages) spent (c.put_unless.ensures.too_much refused)

pub returns-clause-few_left : goal.returns-clause-few_left
returns-clause-few_left g c refused told x held at d small =
    short_any 1 256 d (g.P.Pages.budget c.put_unless.new.pages) (omega arith) (omega arith) (c.put_unless.ensures.few_left refused)

pub returns-clause-staged : goal.returns-clause-staged
returns-clause-staged g c = on_ok_then c.put_unless.result (λ h told x held at d small.
    let m = g.P.Pages.blocks c.args.pages.now in
    let e = c.find_akey.ensures.kept told in
    let tree = tree_of akey_level m c.args.akeys.now.kind c.args.akeys.now.root x c.requires.kind held at in
    let k = akey_is m x held c.args.name.now c.key_of-key.result c.key_of-key.ensures.key c.in_ok-was.field-0 (c.in_ok-was.ensures.found told x.0 tree) c.in-Some.was c.in-Some.is in
    let stands = subst (λ b. Holds (values_owner) b k.thing.holds) (sym e) (akey_holds m x held c.args.name.now k.thing k.found) in
    let n = g.P.Pages.blocks c.change_values.new.pages in
    let v = subst (λ b. Turned (values_owner) values_roots b k.thing.holds n c.in_ok-now.now (ValuesTurn c.args.task)) e (c.in_ok-now.ensures.changed told k.thing.holds stands k.is) in
    let still = akeys_still m x held c.args.name.now k.thing k.found c.args.task n c.in_ok-now.now v c.args.akeys.now.root at in
    let tree2 = subst (λ z. IsTree n z c.args.akeys.now.root x.0) (sym c.requires.kind) still in
    let entry = akey_entry m x held c.args.name.now k.thing k.found c.key_of-key.result c.key_of-key.ensures.key in
    let spent = subst (λ b. Spends (values_cost c.args.task.kind (for_one d)) b (g.P.Pages.budget c.change_values.new.pages)) c.find_akey.ensures.budget (c.in_ok-now.ensures.staged told k.thing.holds stands k.is d (passing_one (AkeyIsSmall d) (is_akey c.args.name.now) (things x) k.thing small.1 k.found)) in
    spends_then (values_cost c.args.task.kind (for_one d)) 1 (g.P.Pages.budget c.args.pages.now) (g.P.Pages.budget c.change_values.new.pages) (g.P.Pages.budget c.put_unless.new.pages) spent c.put_unless.ensures.staged) c.put_unless.ensures.went_on

pub returns-clause-committed : goal.returns-clause-committed
returns-clause-committed g c kept =
    let had = c.are_akey_roots-had.ensures ∙ akey_roots_are c.in-Some.was c.in_ok-now.now (c.in_ok-now.ensures.root kept) in
    let b0 = g.P.Pages.budget c.args.pages.now in
    let spent = subst (λ b. Spends (values_cost c.args.task.kind 1) b (g.P.Pages.budget c.change_values.new.pages)) c.find_akey.ensures.budget (c.in_ok-now.ensures.committed kept) in
    let still = subst (λ b. Spends (values_cost c.args.task.kind 1) b0 b) (sym (c.put_unless.ensures.had had)) spent in
    spends_most (values_cost c.args.task.kind 1) (akeys_cost c.args.task.kind 1 0) b0 (g.P.Pages.budget c.put_unless.new.pages) (omega arith) still

pub returns-clause-free : goal.returns-clause-free
returns-clause-free g c = on_ok_then c.put_unless.result (λ h told x held at.
    let m = g.P.Pages.blocks c.args.pages.now in
    let e = c.find_akey.ensures.kept told in
    let tree = tree_of akey_level m c.args.akeys.now.kind c.args.akeys.now.root x c.requires.kind held at in
    let k = akey_is m x held c.args.name.now c.key_of-key.result c.key_of-key.ensures.key c.in_ok-was.field-0 (c.in_ok-was.ensures.found told x.0 tree) c.in-Some.was c.in-Some.is in
    let stands = subst (λ b. Holds (values_owner) b k.thing.holds) (sym e) (akey_holds m x held c.args.name.now k.thing k.found) in
    let one = c.in_ok-now.ensures.free told k.thing.holds stands k.is in
    let two = ap (λ b. b.free) c.find_akey.ensures.budget in
    let three = ap (or_none (akey_freed c.args.task) 0) k.found in
    let put = c.put_unless.ensures.free in
    omega (arith, one, two, three, put)) c.put_unless.ensures.went_on
