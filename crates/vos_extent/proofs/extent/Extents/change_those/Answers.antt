use Rattle.std.proofs.Common.{Err, Result, ◌≡◌, ◌∙◌, ap, false, refl, rules, sym, subst, arith}
use Rattle.std.specs.List.{list_any}
use Rattle.vos_moments.specs.pmem_tree_base.declared.refusal.TreeNo.{TreeNo}
use Rattle.vos_moments.specs.pmem_tree_base.declared.refusal.TreeNo.TheVariants.{TooMuch}
use Rattle.vos_moments.proofs.vos_levels.Calls.{goes_same, goes_then}
use Rattle.vos_moments.proofs.Forms.{few_next, took_nothing}
use Rattle.vos_extent.specs.Extents.{extents}
use Rattle.vos_extent.proofs.Settling.{counted_on, extent_form, lacked_on, none_before, taken_so_far, walked_all, walked_on, walked_over}
use Rattle.vos_extent.proofs.extent.Extents.change_those.Goals as goal

err_inside : (a b : TreeNo) → ◌≡◌ {A = Result (Unit {0}) TreeNo} (Err a) (Err b) → a ≡ b
err_inside a b h = cc

pub loop-init : goal.loop-init
loop-init g c = record {
  key = c.start_key-key.ensures.is;
  kind = c.requires.kind;
  took = λ told x held at.
      let m = g.P.Pages.blocks c.args.pages.now in
      let none : list_any (taken_so_far c.args.change c.args.which.now c.start_key-key.result) (extents x) ≡ false = subst (λ k. list_any (taken_so_far c.args.change c.args.which.now k) (extents x) ≡ false) (sym c.start_key-key.ensures.key) (none_before c.args.change c.args.which.now m x held) in
      took_nothing extent_form (taken_so_far c.args.change c.args.which.now c.start_key-key.result) c.args.change m x (g.P.Pages.budget c.args.pages.now) m c.args.self.now.tree.root (g.P.Pages.budget c.args.pages.now) held at refl refl none;
  passed = λ told x held at. omega arith;
  goes = goes_same g.P.Pages.stopped g.P.Pages.count g.P.Pages.burns c.args.pages.now;
  went_on = refl;
}

pub change_next-requires-clause-here : goal.change_next-requires-clause-here
change_next-requires-clause-here g c told =
    let s = c.requires.here told in
    let t = c.loop.invariant.took told s.0 s.1.0 s.1.1.0 in
    (t.becomes.now, (t.becomes.changed.holds, (t.becomes.root_is, tt)))

pub returns-in_err-at-clause-too_much : goal.returns-in_err-at-clause-too_much
returns-in_err-at-clause-too_much g c few told x held at =
    let s = c.loop.invariant.took told x held at in
    let is : c.from_residual.result ≡ Err c.in_err-at.field-0.0 = search rules in
    let left = c.change_next.ensures.too_much (c.in_err-at.was ∙ ap (λ z. Err z) (err_inside c.in_err-at.field-0.0 TooMuch (sym is ∙ few))) told s.becomes.now s.becomes.changed.holds s.becomes.root_is in
    lacked_on c.args.change c.args.which.now c.loop.key (g.P.Pages.blocks c.args.pages.now) x (g.P.Pages.budget c.args.pages.now) (g.P.Pages.blocks c.loop.pages) c.loop.self.tree.root (g.P.Pages.budget c.loop.pages) held s left

pub returns-in_err-at-clause-few_left : goal.returns-in_err-at-clause-few_left
returns-in_err-at-clause-few_left g c few told x held at =
    let s = c.loop.invariant.took told x held at in
    let is : c.from_residual.result ≡ Err c.in_err-at.field-0.0 = search rules in
    let left = c.change_next.ensures.few_left (c.in_err-at.was ∙ ap (λ z. Err z) (err_inside c.in_err-at.field-0.0 TooMuch (sym is ∙ few))) told s.becomes.now s.becomes.changed.holds s.becomes.root_is in
    few_next extent_form (taken_so_far c.args.change c.args.which.now c.loop.key) c.args.change (g.P.Pages.blocks c.args.pages.now) x (g.P.Pages.budget c.args.pages.now) (g.P.Pages.blocks c.loop.pages) c.loop.self.tree.root (g.P.Pages.budget c.loop.pages) (g.P.Pages.budget c.change_next.new.pages) held s left

pub returns-in_default-clause-took : goal.returns-in_default-clause-took
returns-in_default-clause-took g c told x held at =
    let s = c.loop.invariant.took told x held at in
    let p = c.in_ok-at.ensures in
    walked_over c.args.change c.args.which.now c.loop.key (g.P.Pages.blocks c.args.pages.now) x (g.P.Pages.budget c.args.pages.now) (g.P.Pages.blocks c.loop.pages) c.loop.self.tree.root (g.P.Pages.budget c.loop.pages) (g.P.Pages.blocks c.change_next.new.pages) c.change_next.new.self.tree.root (g.P.Pages.budget c.change_next.new.pages) held s
    (sym c.in_default.is ∙ p.next told s.becomes.now s.becomes.changed.holds s.becomes.root_is) (p.took told s.becomes.now s.becomes.changed.holds s.becomes.root_is)

pub loop-preserved : goal.loop-preserved
loop-preserved g c =
    let i = c.loop.invariant in
    let p = c.in_ok-at.ensures in
    record {
      key = c.key_at-key.ensures.is;
      kind = c.change_next.ensures.kind;
      took = λ told x held at.
          let s = i.took told x held at in
          walked_on c.args.change c.args.which.now c.loop.key (g.P.Pages.blocks c.args.pages.now) x (g.P.Pages.budget c.args.pages.now) (g.P.Pages.blocks c.loop.pages) c.loop.self.tree.root (g.P.Pages.budget c.loop.pages) (g.P.Pages.blocks c.change_next.new.pages) c.change_next.new.self.tree.root (g.P.Pages.budget c.change_next.new.pages) c.in-Some.at c.key_at-key.result c.key_at-key.ensures.key held s
          (sym c.in-Some.is ∙ p.next told s.becomes.now s.becomes.changed.holds s.becomes.root_is) (p.took told s.becomes.now s.becomes.changed.holds s.becomes.root_is);
      passed = λ told x held at.
          let s = i.took told x held at in
          counted_on c.args.change c.args.which.now c.loop.key (g.P.Pages.blocks c.args.pages.now) x (g.P.Pages.budget c.args.pages.now) (g.P.Pages.blocks c.loop.pages) c.loop.self.tree.root (g.P.Pages.budget c.loop.pages) c.in-Some.at c.key_at-key.result c.loop.counter c.key_at-key.ensures.key held s
          (sym c.in-Some.is ∙ p.next told s.becomes.now s.becomes.changed.holds s.becomes.root_is) (i.passed told x held at);
      goes = goes_then g.P.Pages.stopped g.P.Pages.count g.P.Pages.burns c.args.pages.now c.loop.pages c.change_next.new.pages i.goes c.change_next.ensures.goes;
      went_on = p.went_on ∙ i.went_on;
    }

pub returns-clause-took : goal.returns-clause-took
returns-clause-took g c told x held at =
    let i = c.loop.invariant in
    walked_all c.args.change c.args.which.now c.loop.key (g.P.Pages.blocks c.args.pages.now) x (g.P.Pages.budget c.args.pages.now) (g.P.Pages.blocks c.loop.pages) c.loop.self.tree.root (g.P.Pages.budget c.loop.pages) c.loop.counter held (i.passed told x held at) (let over = c.loop-test.false in omega arith) (i.took told x held at)
