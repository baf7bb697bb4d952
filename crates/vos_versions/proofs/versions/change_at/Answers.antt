use Rattle.std.proofs.Common.{◌≡◌, ◌∙◌, sym, subst, ap, arith, Some, None, true, false}
use Rattle.pmem_pages.specs.Shape.{IsTree, entries}
use Rattle.vos_chain.specs.pmem_tree.Calls.{TooFew}
use Rattle.vos_chain.proofs.vos_levels.Calls.{on_ok_then}
use Rattle.vos_versions.specs.Marks.{HasBytes, Same, mark_at}
use Rattle.vos_versions.proofs.Marks.{changes_none, freed_gone, freed_is, freed_kept, freed_none, has_key, not_taken, taken_gone, taken_kept}
use Rattle.vos_versions.proofs.versions.change_at.Goals as goal

pub find_mark-requires-clause-tree : goal.find_mark-requires-clause-tree
find_mark-requires-clause-tree g c told = let s = c.requires.tree told in (s.0, s.1.0)

-- nothing is there

pub returns-in_default-clause-changed : goal.returns-in_default-clause-changed
returns-in_default-clause-changed g c told t tree =
    let none : mark_at c.args.key.now (entries t) ≡ None = let f = c.in_ok-mark.ensures.found told t tree in let n = c.in_default.is in cc in
    changes_none c.args.change (g.P.Pages.blocks c.args.pages.now) c.args.tree.now.kind t c.args.key.now (g.P.Pages.blocks c.find_mark.new.pages) c.args.tree.now.root (mark_at c.args.key.now (entries t)) none
    (record { blocks = c.find_mark.ensures.kept told; root_is = tree.root })

pub returns-in_default-clause-free : goal.returns-in_default-clause-free
returns-in_default-clause-free g c told t tree =
    let none : mark_at c.args.key.now (entries t) ≡ None = let f = c.in_ok-mark.ensures.found told t tree in let n = c.in_default.is in cc in
    let z = freed_none c.args.change (mark_at c.args.key.now (entries t)) none in
    let same = ap (λ b. b.free) c.find_mark.ensures.budget in
    omega (arith, z, same)

-- it isn't taken

pub returns-then-not-takes-clause-changed : goal.returns-then-not-takes-clause-changed
returns-then-not-takes-clause-changed g c told t tree =
    let says : mark_at c.args.key.now (entries t) ≡ Some c.in-Some.mark = sym (c.in_ok-mark.ensures.found told t tree) ∙ c.in-Some.is in
    let same : Same (g.P.Pages.blocks c.args.pages.now) t (g.P.Pages.blocks c.find_mark.new.pages) c.args.tree.now.root = record { blocks = c.find_mark.ensures.kept told; root_is = tree.root } in
    not_taken c.args.change (g.P.Pages.blocks c.args.pages.now) c.args.tree.now.kind t c.args.key.now (g.P.Pages.blocks c.find_mark.new.pages) c.args.tree.now.root c.in-Some.mark says (sym c.takes.ensures ∙ c.if-not-takes.true) same

pub returns-then-not-takes-clause-free : goal.returns-then-not-takes-clause-free
returns-then-not-takes-clause-free g c told t tree =
    let says : mark_at c.args.key.now (entries t) ≡ Some c.in-Some.mark = sym (c.in_ok-mark.ensures.found told t tree) ∙ c.in-Some.is in
    let z = freed_is c.args.change (mark_at c.args.key.now (entries t)) c.in-Some.mark false says (sym c.takes.ensures ∙ c.if-not-takes.true) in
    let same = ap (λ b. b.free) c.find_mark.ensures.budget in
    omega (arith, z, same)

-- it becomes done

pub put_done-requires-clause-tree : goal.put_done-requires-clause-tree
put_done-requires-clause-tree g c told =
    let s = c.requires.tree told in
    let says : mark_at c.args.key.now (entries s.0) ≡ Some c.in-Some.mark = sym (c.in_ok-mark.ensures.found told s.0 s.1.0) ∙ c.in-Some.is in
    (s.0, (subst (λ b. IsTree b c.args.tree.now.kind c.args.tree.now.root s.0) (sym (c.find_mark.ensures.kept told)) s.1.0, has_key c.args.key.now (entries s.0) c.in-Some.mark says))

pub returns-then-keeps-clause-changed : goal.returns-then-keeps-clause-changed
returns-then-keeps-clause-changed g c = on_ok_then c.put_done.result (λ h told t tree.
    let m = g.P.Pages.blocks c.args.pages.now in
    let e = c.find_mark.ensures.kept told in
    let o = g.P.Pages.blocks c.put_done.new.pages in
    let root = c.put_done.new.tree.root in
    let says : mark_at c.args.key.now (entries t) ≡ Some c.in-Some.mark = sym (c.in_ok-mark.ensures.found told t tree) ∙ c.in-Some.is in
    let puts = h told t (subst (λ b. IsTree b c.args.tree.now.kind c.args.tree.now.root t) (sym e) tree) in
    taken_kept c.args.change m (g.P.Pages.blocks c.find_mark.new.pages) c.args.tree.now.kind t c.args.key.now o root c.in-Some.mark says (sym c.takes.ensures ∙ c.if-not-takes.false) (sym c.keeps.ensures ∙ c.if-keeps.true) e puts) c.put_done.ensures.put

pub returns-then-keeps-clause-free : goal.returns-then-keeps-clause-free
returns-then-keeps-clause-free g c = on_ok_then c.put_done.result (λ h told t tree.
    let says : mark_at c.args.key.now (entries t) ≡ Some c.in-Some.mark = sym (c.in_ok-mark.ensures.found told t tree) ∙ c.in-Some.is in
    let z = freed_is c.args.change (mark_at c.args.key.now (entries t)) c.in-Some.mark true says (sym c.takes.ensures ∙ c.if-not-takes.false) in
    let k = freed_kept c.args.change c.in-Some.mark (sym c.keeps.ensures ∙ c.if-keeps.true) in
    let same = ap (λ b. b.free) c.find_mark.ensures.budget in
    let put = c.put_done.ensures.free in
    omega (arith, z, k, same, put)) c.put_done.ensures.went_on

-- it goes

pub drop_at-requires-clause-tree : goal.drop_at-requires-clause-tree
drop_at-requires-clause-tree g c told =
    let s = c.requires.tree told in
    let e = sym (c.find_mark.ensures.kept told) in
    let says : mark_at c.args.key.now (entries s.0) ≡ Some c.in-Some.mark = sym (c.in_ok-mark.ensures.found told s.0 s.1.0) ∙ c.in-Some.is in (
      s.0,
      (
        subst (λ b. IsTree b c.args.tree.now.kind c.args.tree.now.root s.0) e s.1.0,
        (has_key c.args.key.now (entries s.0) c.in-Some.mark says, subst (λ b. HasBytes b s.0 c.in-Some.mark) e (s.1.1 c.in-Some.mark says)),
      ),
    )

pub returns-else-keeps-clause-changed : goal.returns-else-keeps-clause-changed
returns-else-keeps-clause-changed g c = on_ok_then c.drop_at.result (λ h told t tree.
    let m = g.P.Pages.blocks c.args.pages.now in
    let e = c.find_mark.ensures.kept told in
    let o = g.P.Pages.blocks c.drop_at.new.pages in
    let root = c.drop_at.new.tree.root in
    let says : mark_at c.args.key.now (entries t) ≡ Some c.in-Some.mark = sym (c.in_ok-mark.ensures.found told t tree) ∙ c.in-Some.is in
    let drops = h told t (subst (λ b. IsTree b c.args.tree.now.kind c.args.tree.now.root t) (sym e) tree) in
    taken_gone c.args.change m (g.P.Pages.blocks c.find_mark.new.pages) c.args.tree.now.kind t c.args.key.now o root c.in-Some.mark says (sym c.takes.ensures ∙ c.if-not-takes.false) (sym c.keeps.ensures ∙ c.if-keeps.false) e drops) c.drop_at.ensures.dropped

pub returns-else-keeps-clause-free : goal.returns-else-keeps-clause-free
returns-else-keeps-clause-free g c = on_ok_then c.drop_at.result (λ h told t tree.
    let says : mark_at c.args.key.now (entries t) ≡ Some c.in-Some.mark = sym (c.in_ok-mark.ensures.found told t tree) ∙ c.in-Some.is in
    let z = freed_is c.args.change (mark_at c.args.key.now (entries t)) c.in-Some.mark true says (sym c.takes.ensures ∙ c.if-not-takes.false) in
    let k = freed_gone c.args.change c.in-Some.mark (sym c.keeps.ensures ∙ c.if-keeps.false) in
    let same = ap (λ b. b.free) c.find_mark.ensures.budget in
    let gave = h told in
    omega (arith, z, k, same, gave)) c.drop_at.ensures.free

pub returns-else-keeps-clause-too_much : goal.returns-else-keeps-clause-too_much
returns-else-keeps-clause-too_much g c h told t tree =
    let says : mark_at c.args.key.now (entries t) ≡ Some c.in-Some.mark = sym (c.in_ok-mark.ensures.found told t tree) ∙ c.in-Some.is in
    let k = has_key c.args.key.now (entries t) c.in-Some.mark says in
    let there = subst (λ b. IsTree b c.args.tree.now.kind c.args.tree.now.root t) (sym (c.find_mark.ensures.kept told)) tree in
    subst (λ b. TooFew t b) c.find_mark.ensures.budget (c.drop_at.ensures.too_much h told t there k.0 k.1)

pub returns-else-keeps-clause-few_left : goal.returns-else-keeps-clause-few_left
returns-else-keeps-clause-few_left g c h told t tree =
    let says : mark_at c.args.key.now (entries t) ≡ Some c.in-Some.mark = sym (c.in_ok-mark.ensures.found told t tree) ∙ c.in-Some.is in
    let k = has_key c.args.key.now (entries t) c.in-Some.mark says in
    let there = subst (λ b. IsTree b c.args.tree.now.kind c.args.tree.now.root t) (sym (c.find_mark.ensures.kept told)) tree in
    c.drop_at.ensures.few_left h told t there k.0 k.1
