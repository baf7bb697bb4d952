use Rattle.std.proofs.Common.{rules, ◌≡◌, ◌∙◌, Err, IsErrOf, Some, ap, subst, sym}
use Rattle.base_types.specs.Operations.{write_path}
use Rattle.pmem_pages.specs.Owners.{Holds}
use Rattle.pmem_pages.specs.Shape.{IsTree}
use Rattle.pmem_tree_base.specs.declared.refusal.TreeNo.TheVariants.{TooMuch}
use Rattle.vos_values.specs.Keys.{name_key}
use Rattle.vos_values.specs.Values.{akey_value}
use Rattle.vos_extent.specs.vos_levels.Levels.{HasMore}
use Rattle.vos_extent.proofs.vos_levels.Calls.{on_ok_then}
use Rattle.vos_extent.proofs.vos_versions.Marks.{err_other}
use Rattle.vos_path.specs.Calls.{LacksFor, SpendsAtMost, Turns, for_pair}
use Rattle.pmem_tree.specs.Changes.{PutAt}
use Rattle.vos_path.specs.Nodes.{ValuesNoted}
use Rattle.vos_path.specs.Objects.{akey_level, values_or_none, values_owner, values_roots, values_versions}
use Rattle.vos_path.specs.Small.{AkeysOnPathAreSmall}
use Rattle.vos_path.specs.Writes.{data_blocks, fresh, values_pairs}
use Rattle.vos_path.proofs.AkeyWrites.{akey_at, akey_holds, akey_new, akey_roots_are, akey_small, akeys_still, akeys_written, put_lacks, put_spends}
use Rattle.vos_path.proofs.Naming.{named}
use Rattle.vos_path.proofs.Putting.{tree_of}
use Rattle.vos_path.proofs.akeys.write_akeys.Goals as goal

pub find_akey-requires-clause-tree : goal.find_akey-requires-clause-tree
find_akey-requires-clause-tree g c told =
    let s = c.requires.here told in
    (s.0.0, (tree_of akey_level (g.P.Pages.blocks c.args.pages.now) c.args.akeys.now.kind c.args.akeys.now.root s.0 c.requires.kind s.1.0 s.1.1.0, tt))

pub write_values-requires-clause-here : goal.write_values-requires-clause-here
write_values-requires-clause-here g c told =
    let s = c.requires.here told in
    let held = s.1.0 in
    let at = s.1.1.0 in
    let akey : (write_path c.args.write.now).akey ≡ Some c.in-Some.name = ap (λ p. p.akey) (sym c.path.ensures) ∙ c.in-Some.is in
    let is_name = named (write_path c.args.write.now).akey c.in-Some.name akey c.requires.names.akey in
    let m = g.P.Pages.blocks c.args.pages.now in
    let e = c.find_akey.ensures.kept told in
    let tree = tree_of akey_level m c.args.akeys.now.kind c.args.akeys.now.root s.0 c.requires.kind held at in
    let roots = akey_roots_are m s.0 held c.in-Some.name c.key_of-key.result c.key_of-key.ensures.key c.in_ok-found.found (c.in_ok-found.ensures.found told s.0.0 tree) c.akey_or_zero.result c.akey_or_zero.ensures in
    let stands = subst (λ b. Holds values_owner b (values_or_none (akey_at c.in-Some.name s.0))) (sym e) (akey_holds m s.0 c.in-Some.name held) in
    (values_or_none (akey_at c.in-Some.name s.0), (stands, (roots, akey_new c.args.stamp s.0 c.in-Some.name s.1.1.1)))

pub returns-in_err-roots-clause-too_much : goal.returns-in_err-roots-clause-too_much
returns-in_err-roots-clause-too_much g c refused told x held at new d small =
    let is : c.from_residual-in_err-roots.result ≡ Err c.in_err-roots.field-0.0 = search rules in
    let akey : (write_path c.args.write.now).akey ≡ Some c.in-Some.name = ap (λ p. p.akey) (sym c.path.ensures) ∙ c.in-Some.is in
    let is_name = named (write_path c.args.write.now).akey c.in-Some.name akey c.requires.names.akey in
    let m = g.P.Pages.blocks c.args.pages.now in
    let e = c.find_akey.ensures.kept told in
    let tree = tree_of akey_level m c.args.akeys.now.kind c.args.akeys.now.root x c.requires.kind held at in
    let roots = akey_roots_are m x held c.in-Some.name c.key_of-key.result c.key_of-key.ensures.key c.in_ok-found.found (c.in_ok-found.ensures.found told x.0 tree) c.akey_or_zero.result c.akey_or_zero.ensures in
    let stands = subst (λ b. Holds values_owner b (values_or_none (akey_at c.in-Some.name x))) (sym e) (akey_holds m x c.in-Some.name held) in
    subst (LacksFor (data_blocks c.args.write.now) (values_pairs c.args.write.now (for_pair d)) d) c.find_akey.ensures.budget (c.in_err-roots.ensures.too_much (err_other c.in_err-roots.field-0.0 TooMuch (subst (λ z. IsErrOf z TooMuch) is refused)) told (values_or_none (akey_at c.in-Some.name x)) stands roots (akey_new c.args.stamp x c.in-Some.name new) d (akey_small d x c.in-Some.name (subst (λ z. AkeysOnPathAreSmall d z x) (ap (λ p. p.akey) (sym c.path.ensures) ∙ c.in-Some.is) small)))

pub returns-in_err-roots-clause-few_left : goal.returns-in_err-roots-clause-few_left
returns-in_err-roots-clause-few_left g c refused told x held at new d small =
    let is : c.from_residual-in_err-roots.result ≡ Err c.in_err-roots.field-0.0 = search rules in
    let m = g.P.Pages.blocks c.args.pages.now in
    let e = c.find_akey.ensures.kept told in
    let tree = tree_of akey_level m c.args.akeys.now.kind c.args.akeys.now.root x c.requires.kind held at in
    let roots = akey_roots_are m x held c.in-Some.name c.key_of-key.result c.key_of-key.ensures.key c.in_ok-found.found (c.in_ok-found.ensures.found told x.0 tree) c.akey_or_zero.result c.akey_or_zero.ensures in
    let stands = subst (λ b. Holds values_owner b (values_or_none (akey_at c.in-Some.name x))) (sym e) (akey_holds m x c.in-Some.name held) in
    c.in_err-roots.ensures.few_left (err_other c.in_err-roots.field-0.0 TooMuch (subst (λ z. IsErrOf z TooMuch) is refused)) told (values_or_none (akey_at c.in-Some.name x)) stands roots (akey_new c.args.stamp x c.in-Some.name new) d (akey_small d x c.in-Some.name (subst (λ z. AkeysOnPathAreSmall d z x) (ap (λ p. p.akey) (sym c.path.ensures) ∙ c.in-Some.is) small))

pub set-requires-clause-tree : goal.set-requires-clause-tree
set-requires-clause-tree g c told =
    let s = c.requires.here told in
    let held = s.1.0 in
    let at = s.1.1.0 in
    let akey : (write_path c.args.write.now).akey ≡ Some c.in-Some.name = ap (λ p. p.akey) (sym c.path.ensures) ∙ c.in-Some.is in
    let is_name = named (write_path c.args.write.now).akey c.in-Some.name akey c.requires.names.akey in
    let m = g.P.Pages.blocks c.args.pages.now in
    let e = c.find_akey.ensures.kept told in
    let tree = tree_of akey_level m c.args.akeys.now.kind c.args.akeys.now.root s.0 c.requires.kind held at in
    let roots = akey_roots_are m s.0 held c.in-Some.name c.key_of-key.result c.key_of-key.ensures.key c.in_ok-found.found (c.in_ok-found.ensures.found told s.0.0 tree) c.akey_or_zero.result c.akey_or_zero.ensures in
    let stands = subst (λ b. Holds values_owner b (values_or_none (akey_at c.in-Some.name s.0))) (sym e) (akey_holds m s.0 c.in-Some.name held) in
    let t = subst (λ b. Turns values_owner values_roots (values_versions (write_path c.args.write.now)) b (values_or_none (akey_at c.in-Some.name s.0)) (g.P.Pages.blocks c.write_values.new.pages) c.in_ok-roots.roots (HasMore (fresh c.args.stamp c.args.write.now)) (ValuesNoted c.args.stamp c.args.write.now)) e (c.in_ok-roots.ensures.written told (values_or_none (akey_at c.in-Some.name s.0)) stands roots (akey_new c.args.stamp s.0 c.in-Some.name s.1.1.1)) in
    let still = akeys_still m (g.P.Pages.blocks c.write_values.new.pages) s.0 held c.args.stamp c.args.write.now c.in-Some.name is_name c.in_ok-roots.roots t c.args.akeys.now.root at in
    (s.0.0, (subst (λ z. IsTree (g.P.Pages.blocks c.write_values.new.pages) z c.args.akeys.now.root s.0.0) (sym c.requires.kind) still, tt))

pub returns-clause-written : goal.returns-clause-written
returns-clause-written g c = on_ok_then c.set.result (λ h told x held at new ob d a path.
    let akey : (write_path c.args.write.now).akey ≡ Some c.in-Some.name = ap (λ p. p.akey) (sym c.path.ensures) ∙ c.in-Some.is in
    let is_name = named (write_path c.args.write.now).akey c.in-Some.name akey c.requires.names.akey in
    let m = g.P.Pages.blocks c.args.pages.now in
    let e = c.find_akey.ensures.kept told in
    let tree = tree_of akey_level m c.args.akeys.now.kind c.args.akeys.now.root x c.requires.kind held at in
    let roots = akey_roots_are m x held c.in-Some.name c.key_of-key.result c.key_of-key.ensures.key c.in_ok-found.found (c.in_ok-found.ensures.found told x.0 tree) c.akey_or_zero.result c.akey_or_zero.ensures in
    let stands = subst (λ b. Holds values_owner b (values_or_none (akey_at c.in-Some.name x))) (sym e) (akey_holds m x c.in-Some.name held) in
    let t = subst (λ b. Turns values_owner values_roots (values_versions (write_path c.args.write.now)) b (values_or_none (akey_at c.in-Some.name x)) (g.P.Pages.blocks c.write_values.new.pages) c.in_ok-roots.roots (HasMore (fresh c.args.stamp c.args.write.now)) (ValuesNoted c.args.stamp c.args.write.now)) e (c.in_ok-roots.ensures.written told (values_or_none (akey_at c.in-Some.name x)) stands roots (akey_new c.args.stamp x c.in-Some.name new)) in
    let still = akeys_still m (g.P.Pages.blocks c.write_values.new.pages) x held c.args.stamp c.args.write.now c.in-Some.name is_name c.in_ok-roots.roots t c.args.akeys.now.root at in
    let o = g.P.Pages.blocks c.set.new.pages in
    let root = c.set.new.self.root in
    let put = h told x.0 (subst (λ z. IsTree (g.P.Pages.blocks c.write_values.new.pages) z c.args.akeys.now.root x.0) (sym c.requires.kind) still) in
    let put2 : PutAt (g.P.Pages.blocks c.write_values.new.pages) akey_level.kind x.0 (name_key c.in-Some.name) (akey_value c.in_ok-roots.roots) o root = subst (λ z. PutAt (g.P.Pages.blocks c.write_values.new.pages) akey_level.kind x.0 (name_key c.in-Some.name) z o root) c.akey_value.ensures.value (subst (λ z. PutAt (g.P.Pages.blocks c.write_values.new.pages) akey_level.kind x.0 z c.akey_value.result o root) c.key_of-key.ensures.key (subst (λ z. PutAt (g.P.Pages.blocks c.write_values.new.pages) z x.0 c.key_of-key.result c.akey_value.result o root) c.requires.kind put)) in
    akeys_written m (g.P.Pages.blocks c.write_values.new.pages) x held c.args.stamp c.args.write.now c.in-Some.name is_name c.in_ok-roots.roots t ob d a path akey o root put2) c.set.ensures.set

pub returns-clause-too_much : goal.returns-clause-too_much
returns-clause-too_much g c refused told x held at new d small =
    let akey : (write_path c.args.write.now).akey ≡ Some c.in-Some.name = ap (λ p. p.akey) (sym c.path.ensures) ∙ c.in-Some.is in
    let is_name = named (write_path c.args.write.now).akey c.in-Some.name akey c.requires.names.akey in
    let m = g.P.Pages.blocks c.args.pages.now in
    let e = c.find_akey.ensures.kept told in
    let tree = tree_of akey_level m c.args.akeys.now.kind c.args.akeys.now.root x c.requires.kind held at in
    let roots = akey_roots_are m x held c.in-Some.name c.key_of-key.result c.key_of-key.ensures.key c.in_ok-found.found (c.in_ok-found.ensures.found told x.0 tree) c.akey_or_zero.result c.akey_or_zero.ensures in
    let stands = subst (λ b. Holds values_owner b (values_or_none (akey_at c.in-Some.name x))) (sym e) (akey_holds m x c.in-Some.name held) in
    let t = subst (λ b. Turns values_owner values_roots (values_versions (write_path c.args.write.now)) b (values_or_none (akey_at c.in-Some.name x)) (g.P.Pages.blocks c.write_values.new.pages) c.in_ok-roots.roots (HasMore (fresh c.args.stamp c.args.write.now)) (ValuesNoted c.args.stamp c.args.write.now)) e (c.in_ok-roots.ensures.written told (values_or_none (akey_at c.in-Some.name x)) stands roots (akey_new c.args.stamp x c.in-Some.name new)) in
    let still = akeys_still m (g.P.Pages.blocks c.write_values.new.pages) x held c.args.stamp c.args.write.now c.in-Some.name is_name c.in_ok-roots.roots t c.args.akeys.now.root at in
    let spent = c.in_ok-roots.ensures.staged told (values_or_none (akey_at c.in-Some.name x)) stands roots (akey_new c.args.stamp x c.in-Some.name new) d (akey_small d x c.in-Some.name (subst (λ z. AkeysOnPathAreSmall d z x) (ap (λ p. p.akey) (sym c.path.ensures) ∙ c.in-Some.is) small)) in
    put_lacks (data_blocks c.args.write.now) (values_pairs c.args.write.now (for_pair d)) d x (g.P.Pages.budget c.args.pages.now) (g.P.Pages.budget c.write_values.new.pages) (subst (λ z. AkeysOnPathAreSmall d z x) (ap (λ p. p.akey) (sym c.path.ensures) ∙ c.in-Some.is) small).0 (subst (λ b. SpendsAtMost (data_blocks c.args.write.now) (values_pairs c.args.write.now (for_pair d)) b (g.P.Pages.budget c.write_values.new.pages)) c.find_akey.ensures.budget spent)
    (c.set.ensures.too_much refused told x.0 (subst (λ z. IsTree (g.P.Pages.blocks c.write_values.new.pages) z c.args.akeys.now.root x.0) (sym c.requires.kind) still))

pub returns-clause-few_left : goal.returns-clause-few_left
returns-clause-few_left g c refused told x held at new d small =
    let akey : (write_path c.args.write.now).akey ≡ Some c.in-Some.name = ap (λ p. p.akey) (sym c.path.ensures) ∙ c.in-Some.is in
    let is_name = named (write_path c.args.write.now).akey c.in-Some.name akey c.requires.names.akey in
    let m = g.P.Pages.blocks c.args.pages.now in
    let e = c.find_akey.ensures.kept told in
    let tree = tree_of akey_level m c.args.akeys.now.kind c.args.akeys.now.root x c.requires.kind held at in
    let roots = akey_roots_are m x held c.in-Some.name c.key_of-key.result c.key_of-key.ensures.key c.in_ok-found.found (c.in_ok-found.ensures.found told x.0 tree) c.akey_or_zero.result c.akey_or_zero.ensures in
    let stands = subst (λ b. Holds values_owner b (values_or_none (akey_at c.in-Some.name x))) (sym e) (akey_holds m x c.in-Some.name held) in
    let t = subst (λ b. Turns values_owner values_roots (values_versions (write_path c.args.write.now)) b (values_or_none (akey_at c.in-Some.name x)) (g.P.Pages.blocks c.write_values.new.pages) c.in_ok-roots.roots (HasMore (fresh c.args.stamp c.args.write.now)) (ValuesNoted c.args.stamp c.args.write.now)) e (c.in_ok-roots.ensures.written told (values_or_none (akey_at c.in-Some.name x)) stands roots (akey_new c.args.stamp x c.in-Some.name new)) in
    let still = akeys_still m (g.P.Pages.blocks c.write_values.new.pages) x held c.args.stamp c.args.write.now c.in-Some.name is_name c.in_ok-roots.roots t c.args.akeys.now.root at in
    c.set.ensures.few_left refused told x.0 (subst (λ z. IsTree (g.P.Pages.blocks c.write_values.new.pages) z c.args.akeys.now.root x.0) (sym c.requires.kind) still) d (subst (λ z. AkeysOnPathAreSmall d z x) (ap (λ p. p.akey) (sym c.path.ensures) ∙ c.in-Some.is) small).0

pub returns-clause-staged : goal.returns-clause-staged
returns-clause-staged g c = on_ok_then c.set.result (λ h told x held at new d small.
    let akey : (write_path c.args.write.now).akey ≡ Some c.in-Some.name = ap (λ p. p.akey) (sym c.path.ensures) ∙ c.in-Some.is in
    let is_name = named (write_path c.args.write.now).akey c.in-Some.name akey c.requires.names.akey in
    let m = g.P.Pages.blocks c.args.pages.now in
    let e = c.find_akey.ensures.kept told in
    let tree = tree_of akey_level m c.args.akeys.now.kind c.args.akeys.now.root x c.requires.kind held at in
    let roots = akey_roots_are m x held c.in-Some.name c.key_of-key.result c.key_of-key.ensures.key c.in_ok-found.found (c.in_ok-found.ensures.found told x.0 tree) c.akey_or_zero.result c.akey_or_zero.ensures in
    let stands = subst (λ b. Holds values_owner b (values_or_none (akey_at c.in-Some.name x))) (sym e) (akey_holds m x c.in-Some.name held) in
    let t = subst (λ b. Turns values_owner values_roots (values_versions (write_path c.args.write.now)) b (values_or_none (akey_at c.in-Some.name x)) (g.P.Pages.blocks c.write_values.new.pages) c.in_ok-roots.roots (HasMore (fresh c.args.stamp c.args.write.now)) (ValuesNoted c.args.stamp c.args.write.now)) e (c.in_ok-roots.ensures.written told (values_or_none (akey_at c.in-Some.name x)) stands roots (akey_new c.args.stamp x c.in-Some.name new)) in
    let still = akeys_still m (g.P.Pages.blocks c.write_values.new.pages) x held c.args.stamp c.args.write.now c.in-Some.name is_name c.in_ok-roots.roots t c.args.akeys.now.root at in
    let spent = c.in_ok-roots.ensures.staged told (values_or_none (akey_at c.in-Some.name x)) stands roots (akey_new c.args.stamp x c.in-Some.name new) d (akey_small d x c.in-Some.name (subst (λ z. AkeysOnPathAreSmall d z x) (ap (λ p. p.akey) (sym c.path.ensures) ∙ c.in-Some.is) small)) in
    put_spends (data_blocks c.args.write.now) (values_pairs c.args.write.now (for_pair d)) d x (g.P.Pages.budget c.args.pages.now) (g.P.Pages.budget c.write_values.new.pages) (g.P.Pages.budget c.set.new.pages) (subst (λ z. AkeysOnPathAreSmall d z x) (ap (λ p. p.akey) (sym c.path.ensures) ∙ c.in-Some.is) small).0 (subst (λ b. SpendsAtMost (data_blocks c.args.write.now) (values_pairs c.args.write.now (for_pair d)) b (g.P.Pages.budget c.write_values.new.pages)) c.find_akey.ensures.budget spent)
    (h told x.0 (subst (λ z. IsTree (g.P.Pages.blocks c.write_values.new.pages) z c.args.akeys.now.root x.0) (sym c.requires.kind) still))) c.set.ensures.staged
