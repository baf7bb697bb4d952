use Rattle.std.proofs.Common.{rules, ◌≡◌, ◌∙◌, Err, IsErrOf, Some, None, ap, subst, sym}
use Rattle.base_types.specs.Operations.{write_path}
use Rattle.pmem_pages.specs.Owners.{Holds}
use Rattle.pmem_pages.specs.Shape.{IsTree}
use Rattle.pmem_tree_base.specs.declared.refusal.TreeNo.TheVariants.{TooMuch}
use Rattle.vos_values.specs.Keys.{name_key}
use Rattle.vos_values.specs.Values.{roots_value}
use Rattle.vos_extent.specs.vos_levels.Levels.{HasMore, hung, hung_root}
use Rattle.vos_extent.proofs.vos_levels.Calls.{on_ok_then}
use Rattle.vos_extent.proofs.vos_versions.Marks.{err_other}
use Rattle.vos_path.specs.Calls.{LacksFor, SpendsAtMost, Turns, for_pair}
use Rattle.pmem_tree.specs.Changes.{PutAt}
use Rattle.vos_path.specs.Nodes.{DkeyNoted, DkeysNoted}
use Rattle.vos_path.specs.Objects.{akey_level, below_dkey_versions, below_or_none, below_owner, below_roots, dkey_level, dkeys_versions}
use Rattle.vos_path.specs.Small.{DkeysOnPathAreSmall}
use Rattle.vos_path.specs.Writes.{IsAtDkey, data_blocks, fresh, below_dkey_pairs}
use Rattle.vos_path.proofs.AkeyWrites.{put_lacks, put_spends}
use Rattle.vos_path.proofs.DkeyWrites.{dkey_at, dkey_holds, dkey_roots_are, dkey_small, dkeys_still, dkeys_written, dkey_new}
use Rattle.vos_path.proofs.Forming.{dkey_there, object_some}
use Rattle.vos_path.proofs.Naming.{named}
use Rattle.vos_path.proofs.Putting.{tree_of}
use Rattle.vos_path.proofs.Lists.{some_same}
use Rattle.vos_path.proofs.dkeys.write_dkeys.Goals as goal

pub returns-in_default-clause-written : goal.returns-in_default-clause-written
returns-in_default-clause-written g c told x held at new ob e is_at =
    let d = dkey_there c.args.write.now c.requires.form c.requires.below in
    let none : (write_path c.args.write.now).dkey ≡ None = ap (λ p. p.dkey) (sym c.path.ensures) ∙ c.in_default.is in
    let some = d.1 in
    absurd (let n : ⊥ = cc in n)

pub find_roots-requires-clause-tree : goal.find_roots-requires-clause-tree
find_roots-requires-clause-tree g c told =
    let s = c.requires.here told in
    (s.0.0, (tree_of dkey_level (g.P.Pages.blocks c.args.pages.now) c.args.dkeys.now.kind c.args.dkeys.now.root s.0 c.requires.kind s.1.0 s.1.1.0, tt))

pub write_dkey-requires-clause-here : goal.write_dkey-requires-clause-here
write_dkey-requires-clause-here g c told =
    let s = c.requires.here told in
    let held = s.1.0 in
    let at = s.1.1.0 in
    let dkey : (write_path c.args.write.now).dkey ≡ Some c.in-Some.name = ap (λ p. p.dkey) (sym c.path.ensures) ∙ c.in-Some.is in
    let is_name = named (write_path c.args.write.now).dkey c.in-Some.name dkey c.requires.names.dkey in
    let p = object_some c.args.write.now c.requires.form in
    let ob = p.0 in
    let at_dkey : IsAtDkey ob c.in-Some.name (write_path c.args.write.now) = record { object = p.1; dkey = dkey } in
    let m = g.P.Pages.blocks c.args.pages.now in
    let e = c.find_roots.ensures.kept told in
    let tree = tree_of dkey_level m c.args.dkeys.now.kind c.args.dkeys.now.root s.0 c.requires.kind held at in
    let roots = dkey_roots_are m s.0 held c.in-Some.name c.key_of-key.result c.key_of-key.ensures.key c.in_ok-found.found (c.in_ok-found.ensures.found told s.0.0 tree) c.roots_or_zero.result c.roots_or_zero.ensures in
    let stands = subst (λ b. Holds (below_owner akey_level) b (below_or_none (dkey_at c.in-Some.name s.0))) (sym e) (dkey_holds m s.0 c.in-Some.name held) in
    (below_or_none (dkey_at c.in-Some.name s.0), (stands, (roots, (dkey_new c.args.stamp s.0 c.in-Some.name s.1.1.1))))

pub returns-in_err-roots-clause-too_much : goal.returns-in_err-roots-clause-too_much
returns-in_err-roots-clause-too_much g c refused told x held at new d small =
    let is : c.from_residual-in_err-roots.result ≡ Err c.in_err-roots.field-0.0 = search rules in
    let dkey : (write_path c.args.write.now).dkey ≡ Some c.in-Some.name = ap (λ p. p.dkey) (sym c.path.ensures) ∙ c.in-Some.is in
    let is_name = named (write_path c.args.write.now).dkey c.in-Some.name dkey c.requires.names.dkey in
    let p = object_some c.args.write.now c.requires.form in
    let ob = p.0 in
    let at_dkey : IsAtDkey ob c.in-Some.name (write_path c.args.write.now) = record { object = p.1; dkey = dkey } in
    let m = g.P.Pages.blocks c.args.pages.now in
    let e = c.find_roots.ensures.kept told in
    let tree = tree_of dkey_level m c.args.dkeys.now.kind c.args.dkeys.now.root x c.requires.kind held at in
    let roots = dkey_roots_are m x held c.in-Some.name c.key_of-key.result c.key_of-key.ensures.key c.in_ok-found.found (c.in_ok-found.ensures.found told x.0 tree) c.roots_or_zero.result c.roots_or_zero.ensures in
    let stands = subst (λ b. Holds (below_owner akey_level) b (below_or_none (dkey_at c.in-Some.name x))) (sym e) (dkey_holds m x c.in-Some.name held) in
    subst (LacksFor (data_blocks c.args.write.now) (below_dkey_pairs c.args.write.now (for_pair d)) d) c.find_roots.ensures.budget (c.in_err-roots.ensures.too_much (err_other c.in_err-roots.field-0.0 TooMuch (subst (λ z. IsErrOf z TooMuch) is refused)) told (below_or_none (dkey_at c.in-Some.name x)) stands roots (dkey_new c.args.stamp x c.in-Some.name new) d (dkey_small d x c.in-Some.name (write_path c.args.write.now).akey (subst (λ z. DkeysOnPathAreSmall d z (write_path c.args.write.now).akey x) (ap (λ p. p.dkey) (sym c.path.ensures) ∙ c.in-Some.is) small)))

pub returns-in_err-roots-clause-few_left : goal.returns-in_err-roots-clause-few_left
returns-in_err-roots-clause-few_left g c refused told x held at new d small =
    let is : c.from_residual-in_err-roots.result ≡ Err c.in_err-roots.field-0.0 = search rules in
    let m = g.P.Pages.blocks c.args.pages.now in
    let e = c.find_roots.ensures.kept told in
    let tree = tree_of dkey_level m c.args.dkeys.now.kind c.args.dkeys.now.root x c.requires.kind held at in
    let roots = dkey_roots_are m x held c.in-Some.name c.key_of-key.result c.key_of-key.ensures.key c.in_ok-found.found (c.in_ok-found.ensures.found told x.0 tree) c.roots_or_zero.result c.roots_or_zero.ensures in
    let stands = subst (λ b. Holds (below_owner akey_level) b (below_or_none (dkey_at c.in-Some.name x))) (sym e) (dkey_holds m x c.in-Some.name held) in
    c.in_err-roots.ensures.few_left (err_other c.in_err-roots.field-0.0 TooMuch (subst (λ z. IsErrOf z TooMuch) is refused)) told (below_or_none (dkey_at c.in-Some.name x)) stands roots (dkey_new c.args.stamp x c.in-Some.name new) d (dkey_small d x c.in-Some.name (write_path c.args.write.now).akey (subst (λ z. DkeysOnPathAreSmall d z (write_path c.args.write.now).akey x) (ap (λ p. p.dkey) (sym c.path.ensures) ∙ c.in-Some.is) small))

pub set-requires-clause-tree : goal.set-requires-clause-tree
set-requires-clause-tree g c told =
    let s = c.requires.here told in
    let held = s.1.0 in
    let at = s.1.1.0 in
    let dkey : (write_path c.args.write.now).dkey ≡ Some c.in-Some.name = ap (λ p. p.dkey) (sym c.path.ensures) ∙ c.in-Some.is in
    let is_name = named (write_path c.args.write.now).dkey c.in-Some.name dkey c.requires.names.dkey in
    let p = object_some c.args.write.now c.requires.form in
    let ob = p.0 in
    let at_dkey : IsAtDkey ob c.in-Some.name (write_path c.args.write.now) = record { object = p.1; dkey = dkey } in
    let m = g.P.Pages.blocks c.args.pages.now in
    let e = c.find_roots.ensures.kept told in
    let tree = tree_of dkey_level m c.args.dkeys.now.kind c.args.dkeys.now.root s.0 c.requires.kind held at in
    let roots = dkey_roots_are m s.0 held c.in-Some.name c.key_of-key.result c.key_of-key.ensures.key c.in_ok-found.found (c.in_ok-found.ensures.found told s.0.0 tree) c.roots_or_zero.result c.roots_or_zero.ensures in
    let stands = subst (λ b. Holds (below_owner akey_level) b (below_or_none (dkey_at c.in-Some.name s.0))) (sym e) (dkey_holds m s.0 c.in-Some.name held) in
    let t = subst (λ b. Turns (below_owner akey_level) below_roots (below_dkey_versions ob c.in-Some.name) b (below_or_none (dkey_at c.in-Some.name s.0)) (g.P.Pages.blocks c.write_dkey.new.pages) c.in_ok-roots.roots (HasMore (fresh c.args.stamp c.args.write.now)) (DkeyNoted c.args.stamp c.args.write.now (write_path c.args.write.now).akey)) e (c.in_ok-roots.ensures.written told (below_or_none (dkey_at c.in-Some.name s.0)) stands roots (dkey_new c.args.stamp s.0 c.in-Some.name s.1.1.1) ob c.in-Some.name at_dkey) in
    let still = dkeys_still m (g.P.Pages.blocks c.write_dkey.new.pages) s.0 held ob c.in-Some.name is_name (fresh c.args.stamp c.args.write.now) (DkeyNoted c.args.stamp c.args.write.now (write_path c.args.write.now).akey) c.in_ok-roots.roots t c.args.dkeys.now.root at in
    let tree2 = subst (λ z. IsTree (g.P.Pages.blocks c.write_dkey.new.pages) z c.args.dkeys.now.root s.0.0) (sym c.requires.kind) still in
    (s.0.0, (tree2, tt))

pub returns-clause-written : goal.returns-clause-written
returns-clause-written g c = on_ok_then c.set.result (λ h told x held at new ob named_so at_path.
    let is_at = at_path.object in
    let dkey : (write_path c.args.write.now).dkey ≡ Some c.in-Some.name = ap (λ p. p.dkey) (sym c.path.ensures) ∙ c.in-Some.is in
    let is_name = named (write_path c.args.write.now).dkey c.in-Some.name dkey c.requires.names.dkey in
    let at_dkey : IsAtDkey ob c.in-Some.name (write_path c.args.write.now) = record { object = is_at; dkey = dkey } in
    let m = g.P.Pages.blocks c.args.pages.now in
    let e = c.find_roots.ensures.kept told in
    let tree = tree_of dkey_level m c.args.dkeys.now.kind c.args.dkeys.now.root x c.requires.kind held at in
    let roots = dkey_roots_are m x held c.in-Some.name c.key_of-key.result c.key_of-key.ensures.key c.in_ok-found.found (c.in_ok-found.ensures.found told x.0 tree) c.roots_or_zero.result c.roots_or_zero.ensures in
    let stands = subst (λ b. Holds (below_owner akey_level) b (below_or_none (dkey_at c.in-Some.name x))) (sym e) (dkey_holds m x c.in-Some.name held) in
    let t = subst (λ b. Turns (below_owner akey_level) below_roots (below_dkey_versions ob c.in-Some.name) b (below_or_none (dkey_at c.in-Some.name x)) (g.P.Pages.blocks c.write_dkey.new.pages) c.in_ok-roots.roots (HasMore (fresh c.args.stamp c.args.write.now)) (DkeyNoted c.args.stamp c.args.write.now (write_path c.args.write.now).akey)) e (c.in_ok-roots.ensures.written told (below_or_none (dkey_at c.in-Some.name x)) stands roots (dkey_new c.args.stamp x c.in-Some.name new) ob c.in-Some.name at_dkey) in
    let still = dkeys_still m (g.P.Pages.blocks c.write_dkey.new.pages) x held ob c.in-Some.name is_name (fresh c.args.stamp c.args.write.now) (DkeyNoted c.args.stamp c.args.write.now (write_path c.args.write.now).akey) c.in_ok-roots.roots t c.args.dkeys.now.root at in
    let tree2 = subst (λ z. IsTree (g.P.Pages.blocks c.write_dkey.new.pages) z c.args.dkeys.now.root x.0) (sym c.requires.kind) still in
    let o = g.P.Pages.blocks c.set.new.pages in
    let root = c.set.new.self.root in
    let put = h told x.0 tree2 in
    let put2 : PutAt (g.P.Pages.blocks c.write_dkey.new.pages) 2 x.0 (name_key c.in-Some.name) (roots_value c.in_ok-roots.roots) o root = subst (λ z. PutAt (g.P.Pages.blocks c.write_dkey.new.pages) 2 x.0 (name_key c.in-Some.name) z o root) c.roots_value.ensures.value (subst (λ z. PutAt (g.P.Pages.blocks c.write_dkey.new.pages) 2 x.0 z c.roots_value.result o root) c.key_of-key.ensures.key (subst (λ z. PutAt (g.P.Pages.blocks c.write_dkey.new.pages) z x.0 c.key_of-key.result c.roots_value.result o root) c.requires.kind put)) in
    let is : c.in-Some.name ≡ named_so = some_same c.in-Some.name named_so (sym dkey ∙ at_path.dkey) in
    subst (λ z. Turns (hung dkey_level) hung_root (dkeys_versions ob) m x o root (HasMore (fresh c.args.stamp c.args.write.now)) (DkeysNoted c.args.stamp c.args.write.now z (write_path c.args.write.now).akey)) is
    (dkeys_written m (g.P.Pages.blocks c.write_dkey.new.pages) x held ob c.in-Some.name is_name (fresh c.args.stamp c.args.write.now) (write_path c.args.write.now).akey c.args.write.now c.args.stamp c.in_ok-roots.roots t o root put2)) c.set.ensures.set

pub returns-clause-too_much : goal.returns-clause-too_much
returns-clause-too_much g c refused told x held at new d small =
    let dkey : (write_path c.args.write.now).dkey ≡ Some c.in-Some.name = ap (λ p. p.dkey) (sym c.path.ensures) ∙ c.in-Some.is in
    let is_name = named (write_path c.args.write.now).dkey c.in-Some.name dkey c.requires.names.dkey in
    let p = object_some c.args.write.now c.requires.form in
    let ob = p.0 in
    let at_dkey : IsAtDkey ob c.in-Some.name (write_path c.args.write.now) = record { object = p.1; dkey = dkey } in
    let m = g.P.Pages.blocks c.args.pages.now in
    let e = c.find_roots.ensures.kept told in
    let tree = tree_of dkey_level m c.args.dkeys.now.kind c.args.dkeys.now.root x c.requires.kind held at in
    let roots = dkey_roots_are m x held c.in-Some.name c.key_of-key.result c.key_of-key.ensures.key c.in_ok-found.found (c.in_ok-found.ensures.found told x.0 tree) c.roots_or_zero.result c.roots_or_zero.ensures in
    let stands = subst (λ b. Holds (below_owner akey_level) b (below_or_none (dkey_at c.in-Some.name x))) (sym e) (dkey_holds m x c.in-Some.name held) in
    let t = subst (λ b. Turns (below_owner akey_level) below_roots (below_dkey_versions ob c.in-Some.name) b (below_or_none (dkey_at c.in-Some.name x)) (g.P.Pages.blocks c.write_dkey.new.pages) c.in_ok-roots.roots (HasMore (fresh c.args.stamp c.args.write.now)) (DkeyNoted c.args.stamp c.args.write.now (write_path c.args.write.now).akey)) e (c.in_ok-roots.ensures.written told (below_or_none (dkey_at c.in-Some.name x)) stands roots (dkey_new c.args.stamp x c.in-Some.name new) ob c.in-Some.name at_dkey) in
    let still = dkeys_still m (g.P.Pages.blocks c.write_dkey.new.pages) x held ob c.in-Some.name is_name (fresh c.args.stamp c.args.write.now) (DkeyNoted c.args.stamp c.args.write.now (write_path c.args.write.now).akey) c.in_ok-roots.roots t c.args.dkeys.now.root at in
    let tree2 = subst (λ z. IsTree (g.P.Pages.blocks c.write_dkey.new.pages) z c.args.dkeys.now.root x.0) (sym c.requires.kind) still in
    let spent = subst (λ b. SpendsAtMost (data_blocks c.args.write.now) (below_dkey_pairs c.args.write.now (for_pair d)) b (g.P.Pages.budget c.write_dkey.new.pages)) c.find_roots.ensures.budget (c.in_ok-roots.ensures.staged told (below_or_none (dkey_at c.in-Some.name x)) stands roots (dkey_new c.args.stamp x c.in-Some.name new) d (dkey_small d x c.in-Some.name (write_path c.args.write.now).akey (subst (λ z. DkeysOnPathAreSmall d z (write_path c.args.write.now).akey x) (ap (λ p. p.dkey) (sym c.path.ensures) ∙ c.in-Some.is) small))) in
    put_lacks (data_blocks c.args.write.now) (below_dkey_pairs c.args.write.now (for_pair d)) d x (g.P.Pages.budget c.args.pages.now) (g.P.Pages.budget c.write_dkey.new.pages) (subst (λ z. DkeysOnPathAreSmall d z (write_path c.args.write.now).akey x) (ap (λ p. p.dkey) (sym c.path.ensures) ∙ c.in-Some.is) small).0 spent (c.set.ensures.too_much refused told x.0 tree2)

pub returns-clause-few_left : goal.returns-clause-few_left
returns-clause-few_left g c refused told x held at new d small =
    let dkey : (write_path c.args.write.now).dkey ≡ Some c.in-Some.name = ap (λ p. p.dkey) (sym c.path.ensures) ∙ c.in-Some.is in
    let is_name = named (write_path c.args.write.now).dkey c.in-Some.name dkey c.requires.names.dkey in
    let p = object_some c.args.write.now c.requires.form in
    let ob = p.0 in
    let at_dkey : IsAtDkey ob c.in-Some.name (write_path c.args.write.now) = record { object = p.1; dkey = dkey } in
    let m = g.P.Pages.blocks c.args.pages.now in
    let e = c.find_roots.ensures.kept told in
    let tree = tree_of dkey_level m c.args.dkeys.now.kind c.args.dkeys.now.root x c.requires.kind held at in
    let roots = dkey_roots_are m x held c.in-Some.name c.key_of-key.result c.key_of-key.ensures.key c.in_ok-found.found (c.in_ok-found.ensures.found told x.0 tree) c.roots_or_zero.result c.roots_or_zero.ensures in
    let stands = subst (λ b. Holds (below_owner akey_level) b (below_or_none (dkey_at c.in-Some.name x))) (sym e) (dkey_holds m x c.in-Some.name held) in
    let t = subst (λ b. Turns (below_owner akey_level) below_roots (below_dkey_versions ob c.in-Some.name) b (below_or_none (dkey_at c.in-Some.name x)) (g.P.Pages.blocks c.write_dkey.new.pages) c.in_ok-roots.roots (HasMore (fresh c.args.stamp c.args.write.now)) (DkeyNoted c.args.stamp c.args.write.now (write_path c.args.write.now).akey)) e (c.in_ok-roots.ensures.written told (below_or_none (dkey_at c.in-Some.name x)) stands roots (dkey_new c.args.stamp x c.in-Some.name new) ob c.in-Some.name at_dkey) in
    let still = dkeys_still m (g.P.Pages.blocks c.write_dkey.new.pages) x held ob c.in-Some.name is_name (fresh c.args.stamp c.args.write.now) (DkeyNoted c.args.stamp c.args.write.now (write_path c.args.write.now).akey) c.in_ok-roots.roots t c.args.dkeys.now.root at in
    let tree2 = subst (λ z. IsTree (g.P.Pages.blocks c.write_dkey.new.pages) z c.args.dkeys.now.root x.0) (sym c.requires.kind) still in
    c.set.ensures.few_left refused told x.0 tree2 d (subst (λ z. DkeysOnPathAreSmall d z (write_path c.args.write.now).akey x) (ap (λ p. p.dkey) (sym c.path.ensures) ∙ c.in-Some.is) small).0

pub returns-clause-staged : goal.returns-clause-staged
returns-clause-staged g c = on_ok_then c.set.result (λ h told x held at new d small.
    let dkey : (write_path c.args.write.now).dkey ≡ Some c.in-Some.name = ap (λ p. p.dkey) (sym c.path.ensures) ∙ c.in-Some.is in
    let is_name = named (write_path c.args.write.now).dkey c.in-Some.name dkey c.requires.names.dkey in
    let p = object_some c.args.write.now c.requires.form in
    let ob = p.0 in
    let at_dkey : IsAtDkey ob c.in-Some.name (write_path c.args.write.now) = record { object = p.1; dkey = dkey } in
    let m = g.P.Pages.blocks c.args.pages.now in
    let e = c.find_roots.ensures.kept told in
    let tree = tree_of dkey_level m c.args.dkeys.now.kind c.args.dkeys.now.root x c.requires.kind held at in
    let roots = dkey_roots_are m x held c.in-Some.name c.key_of-key.result c.key_of-key.ensures.key c.in_ok-found.found (c.in_ok-found.ensures.found told x.0 tree) c.roots_or_zero.result c.roots_or_zero.ensures in
    let stands = subst (λ b. Holds (below_owner akey_level) b (below_or_none (dkey_at c.in-Some.name x))) (sym e) (dkey_holds m x c.in-Some.name held) in
    let t = subst (λ b. Turns (below_owner akey_level) below_roots (below_dkey_versions ob c.in-Some.name) b (below_or_none (dkey_at c.in-Some.name x)) (g.P.Pages.blocks c.write_dkey.new.pages) c.in_ok-roots.roots (HasMore (fresh c.args.stamp c.args.write.now)) (DkeyNoted c.args.stamp c.args.write.now (write_path c.args.write.now).akey)) e (c.in_ok-roots.ensures.written told (below_or_none (dkey_at c.in-Some.name x)) stands roots (dkey_new c.args.stamp x c.in-Some.name new) ob c.in-Some.name at_dkey) in
    let still = dkeys_still m (g.P.Pages.blocks c.write_dkey.new.pages) x held ob c.in-Some.name is_name (fresh c.args.stamp c.args.write.now) (DkeyNoted c.args.stamp c.args.write.now (write_path c.args.write.now).akey) c.in_ok-roots.roots t c.args.dkeys.now.root at in
    let tree2 = subst (λ z. IsTree (g.P.Pages.blocks c.write_dkey.new.pages) z c.args.dkeys.now.root x.0) (sym c.requires.kind) still in
    let spent = subst (λ b. SpendsAtMost (data_blocks c.args.write.now) (below_dkey_pairs c.args.write.now (for_pair d)) b (g.P.Pages.budget c.write_dkey.new.pages)) c.find_roots.ensures.budget (c.in_ok-roots.ensures.staged told (below_or_none (dkey_at c.in-Some.name x)) stands roots (dkey_new c.args.stamp x c.in-Some.name new) d (dkey_small d x c.in-Some.name (write_path c.args.write.now).akey (subst (λ z. DkeysOnPathAreSmall d z (write_path c.args.write.now).akey x) (ap (λ p. p.dkey) (sym c.path.ensures) ∙ c.in-Some.is) small))) in
    put_spends (data_blocks c.args.write.now) (below_dkey_pairs c.args.write.now (for_pair d)) d x (g.P.Pages.budget c.args.pages.now) (g.P.Pages.budget c.write_dkey.new.pages) (g.P.Pages.budget c.set.new.pages) (subst (λ z. DkeysOnPathAreSmall d z (write_path c.args.write.now).akey x) (ap (λ p. p.dkey) (sym c.path.ensures) ∙ c.in-Some.is) small).0 spent (h told x.0 tree2)) c.set.ensures.staged
