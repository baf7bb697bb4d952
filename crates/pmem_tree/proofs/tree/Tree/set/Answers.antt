use Rattle.std.proofs.Common.{None, rules, sym, subst, arith}
use Rattle.pmem_pages.specs.Blocks.{Blocks, Budget}
use Rattle.pmem_tree.specs.Set.{CanSet, Sets}
use Rattle.pmem_tree.proofs.Ends.{spent_nothing}
use Rattle.pmem_tree.proofs.Found.{steps_16}
use Rattle.pmem_tree.proofs.Inserted.{can_set, few_less, sets_put, sets_stages, sets_take, sets_new, sets_old, stages_end, too_few}
use Rattle.pmem_tree.proofs.tree.Tree.set.Goals as goal

pub sub_at-requires : goal.sub_at-requires
sub_at-requires g c told =
    let v = c.requires.tree told in
    (v.0, record { root_is = v.1.0.root; stands = v.1.0.stands })

pub set_at-requires-clause-tree : goal.set_at-requires-clause-tree
set_at-requires-clause-tree g c told =
    let v = c.requires.tree told in
    (v.0, (subst (λ (z : Blocks). CanSet z c.args.self.now.kind c.args.self.now.root c.in_ok-whole.whole.height None (record { key = c.args.key.now; value = c.args.value.now }) v.0) (sym (c.sub_at.ensures.kept told)) (can_set _ c.args.self.now.kind c.args.self.now.root c.in_ok-whole.whole.height (record { key = c.args.key.now; value = c.args.value.now }) v.0 v.1.0 c.requires.key c.requires.value (c.in_ok-whole.ensures.sub told v.0 (record { root_is = v.1.0.root; stands = v.1.0.stands })).height_is)))

pub returns-in_err-grown-clause-too_much : goal.returns-in_err-grown-clause-too_much
returns-in_err-grown-clause-too_much g c e told t w =
    let h = (c.in_ok-whole.ensures.sub told t (record { root_is = w.root; stands = w.stands })).height_is in
    too_few t (g.P.Pages.budget c.args.pages.now) (g.P.Pages.budget c.args.pages.now) w.balanced (spent_nothing 1 1 (g.P.Pages.budget c.args.pages.now)) (rw (h, c.sub_at.ensures.budget) at (c.set_at.ensures.refused told (search rules)))

pub returns-in_err-grown-clause-few_left : goal.returns-in_err-grown-clause-few_left
returns-in_err-grown-clause-few_left g c e told t w =
    let h = (c.in_ok-whole.ensures.sub told t (record { root_is = w.root; stands = w.stands })).height_is in
    let b = g.P.Pages.budget c.sub_at.new.pages in
    few_less t _ _ b _ c.set_at.ensures.spent (too_few t b b w.balanced (spent_nothing 1 1 b) (rw h at (c.set_at.ensures.refused told (search rules))))

pub returns-in_err-grown-clause-missing : goal.returns-in_err-grown-clause-missing
returns-in_err-grown-clause-missing g c none told t w = c.set_at.ensures.missing (search rules) told t (subst (λ (z : Blocks). CanSet z c.args.self.now.kind c.args.self.now.root c.in_ok-whole.whole.height None (record { key = c.args.key.now; value = c.args.value.now }) t) (sym (c.sub_at.ensures.kept told)) (can_set _ c.args.self.now.kind c.args.self.now.root c.in_ok-whole.whole.height (record { key = c.args.key.now; value = c.args.value.now }) t w c.requires.key c.requires.value (c.in_ok-whole.ensures.sub told t (record { root_is = w.root; stands = w.stands })).height_is))

pub returns-in_err-grown-clause-steps : goal.returns-in_err-grown-clause-steps
returns-in_err-grown-clause-steps g c told t w =
    let h = (c.in_ok-whole.ensures.sub told t (record { root_is = w.root; stands = w.stands })).height_is in
    steps_16 t _ _ w.balanced (omega (arith, h, c.sub_at.ensures.steps, c.set_at.ensures.steps))

pub returns-clause-steps : goal.returns-clause-steps
returns-clause-steps g c told t w =
    let h = (c.in_ok-whole.ensures.sub told t (record { root_is = w.root; stands = w.stands })).height_is in
    steps_16 t _ _ w.balanced (omega (arith, h, c.sub_at.ensures.steps, c.set_at.ensures.steps))

pub returns-clause-set : goal.returns-clause-set
returns-clause-set g c told t w = sets_put _ c.args.self.now.kind c.args.self.now.root c.in_ok-whole.whole.height (record { key = c.args.key.now; value = c.args.value.now }) t w c.requires.value _ _ c.in_ok-grown.grown _ (subst (λ (z : Budget). Sets (g.P.Pages.blocks c.args.pages.now) c.args.self.now.kind None (record { key = c.args.key.now; value = c.args.value.now }) t z (g.P.Pages.blocks c.set_at.new.pages) c.in_ok-grown.grown (g.P.Pages.budget c.set_at.new.pages)) c.sub_at.ensures.budget (subst (λ (z : Blocks). Sets z c.args.self.now.kind None (record { key = c.args.key.now; value = c.args.value.now }) t (g.P.Pages.budget c.sub_at.new.pages) (g.P.Pages.blocks c.set_at.new.pages) c.in_ok-grown.grown (g.P.Pages.budget c.set_at.new.pages)) (c.sub_at.ensures.kept told) (c.in_ok-grown.ensures.set told t (subst (λ (z : Blocks). CanSet z c.args.self.now.kind c.args.self.now.root c.in_ok-whole.whole.height None (record { key = c.args.key.now; value = c.args.value.now }) t) (sym (c.sub_at.ensures.kept told)) (can_set _ c.args.self.now.kind c.args.self.now.root c.in_ok-whole.whole.height (record { key = c.args.key.now; value = c.args.value.now }) t w c.requires.key c.requires.value (c.in_ok-whole.ensures.sub told t (record { root_is = w.root; stands = w.stands })).height_is)))))

pub returns-clause-staged : goal.returns-clause-staged
returns-clause-staged g c told t w = sets_stages _ c.args.self.now.kind c.args.self.now.root c.in_ok-whole.whole.height (record { key = c.args.key.now; value = c.args.value.now }) t w c.requires.value _ _ c.in_ok-grown.grown _ (subst (λ (z : Budget). Sets (g.P.Pages.blocks c.args.pages.now) c.args.self.now.kind None (record { key = c.args.key.now; value = c.args.value.now }) t z (g.P.Pages.blocks c.set_at.new.pages) c.in_ok-grown.grown (g.P.Pages.budget c.set_at.new.pages)) c.sub_at.ensures.budget (subst (λ (z : Blocks). Sets z c.args.self.now.kind None (record { key = c.args.key.now; value = c.args.value.now }) t (g.P.Pages.budget c.sub_at.new.pages) (g.P.Pages.blocks c.set_at.new.pages) c.in_ok-grown.grown (g.P.Pages.budget c.set_at.new.pages)) (c.sub_at.ensures.kept told) (c.in_ok-grown.ensures.set told t (subst (λ (z : Blocks). CanSet z c.args.self.now.kind c.args.self.now.root c.in_ok-whole.whole.height None (record { key = c.args.key.now; value = c.args.value.now }) t) (sym (c.sub_at.ensures.kept told)) (can_set _ c.args.self.now.kind c.args.self.now.root c.in_ok-whole.whole.height (record { key = c.args.key.now; value = c.args.value.now }) t w c.requires.key c.requires.value (c.in_ok-whole.ensures.sub told t (record { root_is = w.root; stands = w.stands })).height_is)))))

pub returns-clause-takes : goal.returns-clause-takes
returns-clause-takes g c told t w = sets_take _ c.args.self.now.kind c.args.self.now.root c.in_ok-whole.whole.height (record { key = c.args.key.now; value = c.args.value.now }) t w c.requires.value _ _ c.in_ok-grown.grown _ (subst (λ (z : Budget). Sets (g.P.Pages.blocks c.args.pages.now) c.args.self.now.kind None (record { key = c.args.key.now; value = c.args.value.now }) t z (g.P.Pages.blocks c.set_at.new.pages) c.in_ok-grown.grown (g.P.Pages.budget c.set_at.new.pages)) c.sub_at.ensures.budget (subst (λ (z : Blocks). Sets z c.args.self.now.kind None (record { key = c.args.key.now; value = c.args.value.now }) t (g.P.Pages.budget c.sub_at.new.pages) (g.P.Pages.blocks c.set_at.new.pages) c.in_ok-grown.grown (g.P.Pages.budget c.set_at.new.pages)) (c.sub_at.ensures.kept told) (c.in_ok-grown.ensures.set told t (subst (λ (z : Blocks). CanSet z c.args.self.now.kind c.args.self.now.root c.in_ok-whole.whole.height None (record { key = c.args.key.now; value = c.args.value.now }) t) (sym (c.sub_at.ensures.kept told)) (can_set _ c.args.self.now.kind c.args.self.now.root c.in_ok-whole.whole.height (record { key = c.args.key.now; value = c.args.value.now }) t w c.requires.key c.requires.value (c.in_ok-whole.ensures.sub told t (record { root_is = w.root; stands = w.stands })).height_is)))))

pub returns-clause-few : goal.returns-clause-few
returns-clause-few g c told t w none = stages_end _ c.args.self.now.kind c.args.self.now.root (record { key = c.args.key.now; value = c.args.value.now }) t w _ _ c.in_ok-grown.grown _ (sets_new _ c.args.self.now.kind c.args.self.now.root c.in_ok-whole.whole.height (record { key = c.args.key.now; value = c.args.value.now }) t w c.requires.value _ _ c.in_ok-grown.grown _ none (subst (λ (z : Budget). Sets (g.P.Pages.blocks c.args.pages.now) c.args.self.now.kind None (record { key = c.args.key.now; value = c.args.value.now }) t z (g.P.Pages.blocks c.set_at.new.pages) c.in_ok-grown.grown (g.P.Pages.budget c.set_at.new.pages)) c.sub_at.ensures.budget (subst (λ (z : Blocks). Sets z c.args.self.now.kind None (record { key = c.args.key.now; value = c.args.value.now }) t (g.P.Pages.budget c.sub_at.new.pages) (g.P.Pages.blocks c.set_at.new.pages) c.in_ok-grown.grown (g.P.Pages.budget c.set_at.new.pages)) (c.sub_at.ensures.kept told) (c.in_ok-grown.ensures.set told t (subst (λ (z : Blocks). CanSet z c.args.self.now.kind c.args.self.now.root c.in_ok-whole.whole.height None (record { key = c.args.key.now; value = c.args.value.now }) t) (sym (c.sub_at.ensures.kept told)) (can_set _ c.args.self.now.kind c.args.self.now.root c.in_ok-whole.whole.height (record { key = c.args.key.now; value = c.args.value.now }) t w c.requires.key c.requires.value (c.in_ok-whole.ensures.sub told t (record { root_is = w.root; stands = w.stands })).height_is))))))

pub returns-clause-idle : goal.returns-clause-idle
returns-clause-idle g c told t w e there same = (sets_old _ c.args.self.now.kind c.args.self.now.root c.in_ok-whole.whole.height (record { key = c.args.key.now; value = c.args.value.now }) t w c.requires.value _ _ c.in_ok-grown.grown _ e there (subst (λ (z : Budget). Sets (g.P.Pages.blocks c.args.pages.now) c.args.self.now.kind None (record { key = c.args.key.now; value = c.args.value.now }) t z (g.P.Pages.blocks c.set_at.new.pages) c.in_ok-grown.grown (g.P.Pages.budget c.set_at.new.pages)) c.sub_at.ensures.budget (subst (λ (z : Blocks). Sets z c.args.self.now.kind None (record { key = c.args.key.now; value = c.args.value.now }) t (g.P.Pages.budget c.sub_at.new.pages) (g.P.Pages.blocks c.set_at.new.pages) c.in_ok-grown.grown (g.P.Pages.budget c.set_at.new.pages)) (c.sub_at.ensures.kept told) (c.in_ok-grown.ensures.set told t (subst (λ (z : Blocks). CanSet z c.args.self.now.kind c.args.self.now.root c.in_ok-whole.whole.height None (record { key = c.args.key.now; value = c.args.value.now }) t) (sym (c.sub_at.ensures.kept told)) (can_set _ c.args.self.now.kind c.args.self.now.root c.in_ok-whole.whole.height (record { key = c.args.key.now; value = c.args.value.now }) t w c.requires.key c.requires.value (c.in_ok-whole.ensures.sub told t (record { root_is = w.root; stands = w.stands })).height_is)))))).idle same

pub returns-clause-one : goal.returns-clause-one
returns-clause-one g c told t w e there = (sets_old _ c.args.self.now.kind c.args.self.now.root c.in_ok-whole.whole.height (record { key = c.args.key.now; value = c.args.value.now }) t w c.requires.value _ _ c.in_ok-grown.grown _ e there (subst (λ (z : Budget). Sets (g.P.Pages.blocks c.args.pages.now) c.args.self.now.kind None (record { key = c.args.key.now; value = c.args.value.now }) t z (g.P.Pages.blocks c.set_at.new.pages) c.in_ok-grown.grown (g.P.Pages.budget c.set_at.new.pages)) c.sub_at.ensures.budget (subst (λ (z : Blocks). Sets z c.args.self.now.kind None (record { key = c.args.key.now; value = c.args.value.now }) t (g.P.Pages.budget c.sub_at.new.pages) (g.P.Pages.blocks c.set_at.new.pages) c.in_ok-grown.grown (g.P.Pages.budget c.set_at.new.pages)) (c.sub_at.ensures.kept told) (c.in_ok-grown.ensures.set told t (subst (λ (z : Blocks). CanSet z c.args.self.now.kind c.args.self.now.root c.in_ok-whole.whole.height None (record { key = c.args.key.now; value = c.args.value.now }) t) (sym (c.sub_at.ensures.kept told)) (can_set _ c.args.self.now.kind c.args.self.now.root c.in_ok-whole.whole.height (record { key = c.args.key.now; value = c.args.value.now }) t w c.requires.key c.requires.value (c.in_ok-whole.ensures.sub told t (record { root_is = w.root; stands = w.stands })).height_is)))))).spent
