use Rattle.std.proofs.Common.{◌≡◌, ◌∙◌, ◌<◌, ◌^◌, None, refl, sym, subst}
use Rattle.std.specs.Prelude.{bit_or}
use Rattle.std.specs.List.{find}
use Rattle.std.specs.Option.{option_map}
use Rattle.pmem_pages.specs.Shape.{IsTree}
use Rattle.vos_versions.specs.pmem_tree.Changes.{Puts}
use Rattle.vos_values.specs.declared.values.EntryMark.{EntryMark}
use Rattle.vos_values.specs.Keys.{attempt_key}
use Rattle.vos_values.specs.Values.{entry_value}
use Rattle.vos_versions.specs.vos_levels.Levels.{things}
use Rattle.vos_versions.proofs.vos_levels.Calls.{on_ok_then}
use Rattle.vos_entries.specs.Entries.{IsConfirmedAt, is_at, mark_of}
use Rattle.vos_entries.proofs.Changing.{entry_confirmed, entry_tree, key_there, none_confirmed, said, same_still}
use Rattle.vos_entries.proofs.entries.EntryTree.confirm.Goals as goal

pub put_mark-requires-clause-tree : goal.put_mark-requires-clause-tree
put_mark-requires-clause-tree g c told =
    let x = c.requires.here told in
    let m = g.P.Pages.blocks c.args.pages.now in
    let says = said c.args.attempt c.find.ensures.attempt m x.0 x.1.0 c.in-Some.mark (sym c.in-Some.is ∙ c.in_ok-mark.ensures.found told x.0 x.1.0 x.1.1.0) in
    let tree = entry_tree m 7 c.args.self.now.tree.root x.0 refl x.1.0 x.1.1.0 in
    (x.0.0, (subst (λ b. IsTree b 7 c.args.self.now.tree.root x.0.0) (sym (c.find.ensures.kept told)) tree, key_there c.args.attempt c.find.ensures.attempt m x.0 x.1.0 c.in-Some.mark says))

pub returns-in_default-clause-confirmed : goal.returns-in_default-clause-confirmed
returns-in_default-clause-confirmed g c told x held at =
    let m = g.P.Pages.blocks c.args.pages.now in
    let none : None ≡ option_map mark_of (find (is_at c.args.attempt) (things x)) = let f = c.in_ok-mark.ensures.found told x held at in let n = c.in_default.is in cc in
    same_still c.args.attempt c.find.ensures.attempt m x held (g.P.Pages.blocks c.find.new.pages) c.args.self.now.tree.root (IsConfirmedAt c.args.attempt c.args.target) (c.find.ensures.kept told) at (none_confirmed c.args.attempt c.find.ensures.attempt m x held c.args.target none)

pub returns-clause-confirmed : goal.returns-clause-confirmed
returns-clause-confirmed g c = on_ok_then c.put_mark.result (λ h told x held at.
    let m = g.P.Pages.blocks c.args.pages.now in
    let n = g.P.Pages.blocks c.find.new.pages in
    let o = g.P.Pages.blocks c.put_mark.new.pages in
    let same = c.find.ensures.kept told in
    let mark = c.in-Some.mark in
    let says = said c.args.attempt c.find.ensures.attempt m x held mark (sym c.in-Some.is ∙ c.in_ok-mark.ensures.found told x held at) in
    let tree = subst (λ b. IsTree b 7 c.args.self.now.tree.root x.0) (sym same) (entry_tree m 7 c.args.self.now.tree.root x refl held at) in
    let low : bit_or mark.confirmed (2 ^ c.args.target) < 2 ^ 64 = subst (λ (z : EntryMark). z.confirmed < 2 ^ 64) c.confirmed_mark.ensures.mark c.confirmed_mark.ensures.low in
    entry_confirmed c.args.attempt c.find.ensures.attempt m x held o c.put_mark.new.self.tree.root c.args.target mark says low
    (λ e there. subst (λ v. Puts m 7 x.0 (attempt_key c.args.attempt) (entry_value v) o c.put_mark.new.self.tree.root) c.confirmed_mark.ensures.mark (subst (λ b. Puts b 7 x.0 (attempt_key c.args.attempt) (entry_value c.confirmed_mark.result) o c.put_mark.new.self.tree.root) same (h told x.0 tree e there)))) c.put_mark.ensures.put
