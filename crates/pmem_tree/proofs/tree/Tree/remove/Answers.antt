use Rattle.std.proofs.Common.{rules, sym, subst, arith}
use Rattle.pmem_pages.specs.Blocks.{Blocks}
use Rattle.pmem_tree.specs.Shrink.{CanShrink, Shrunk}
use Rattle.pmem_tree.proofs.Found.{steps_16}
use Rattle.pmem_tree.proofs.Inserted.{few_less, too_few_1}
use Rattle.pmem_tree.proofs.Removed.{can_shrink, gone_taken, removes, stages_least, few_removed, few_given}
use Rattle.pmem_tree.proofs.tree.Tree.remove.Goals as goal

pub sub_at-requires : goal.sub_at-requires
sub_at-requires g c told =
    let v = c.requires.tree told in
    (v.0, record { root_is = v.1.0.root; stands = v.1.0.stands })

pub remove_at-requires-clause-tree : goal.remove_at-requires-clause-tree
remove_at-requires-clause-tree g c told =
    let v = c.requires.tree told in
    let t = v.0 in
    let w = v.1.0 in
    let e = v.1.1.0 in
    let there = v.1.1.1 in
    (e, t, (subst (λ (z : Blocks). CanShrink z c.args.self.now.kind c.args.self.now.root c.in_ok-whole.whole.height c.args.key.now e t) (sym (c.sub_at.ensures.kept told)) (can_shrink _ c.args.self.now.kind c.args.self.now.root c.in_ok-whole.whole.height c.args.key.now e t w there (c.in_ok-whole.ensures.sub told t (record { root_is = w.root; stands = w.stands })).height_is)))

pub give_block-requires : goal.give_block-requires
give_block-requires g c told =
    let v = c.requires.tree told in
    let t = v.0 in
    let w = v.1.0 in
    let e = v.1.1.0 in
    let there = v.1.1.1 in
    gone_taken _ c.args.self.now.kind c.args.self.now.root c.in_ok-whole.whole.height c.args.key.now e t w there _ c.in_ok-cut.cut (subst (λ (z : Blocks). Shrunk z c.args.self.now.kind t c.args.key.now e (g.P.Pages.blocks c.remove_at.new.pages) c.in_ok-cut.cut) (c.sub_at.ensures.kept told) (c.in_ok-cut.ensures.shrunk told e t (subst (λ (z : Blocks). CanShrink z c.args.self.now.kind c.args.self.now.root c.in_ok-whole.whole.height c.args.key.now e t) (sym (c.sub_at.ensures.kept told)) (can_shrink _ c.args.self.now.kind c.args.self.now.root c.in_ok-whole.whole.height c.args.key.now e t w there (c.in_ok-whole.ensures.sub told t (record { root_is = w.root; stands = w.stands })).height_is))))

pub returns-in_err-cut-clause-too_much : goal.returns-in_err-cut-clause-too_much
returns-in_err-cut-clause-too_much g c x told t w e there =
    few_removed t c.in_ok-whole.whole.height (g.P.Pages.budget c.args.pages.now) w.balanced (c.in_ok-whole.ensures.sub told t (record { root_is = w.root; stands = w.stands })).height_is (rw c.sub_at.ensures.budget at (c.remove_at.ensures.refused told (search rules)))

pub returns-in_err-cut-clause-few_left : goal.returns-in_err-cut-clause-few_left
returns-in_err-cut-clause-few_left g c x told t w e there =
    few_less t _ _ (g.P.Pages.budget c.sub_at.new.pages) _ c.remove_at.ensures.spent (few_removed t c.in_ok-whole.whole.height (g.P.Pages.budget c.sub_at.new.pages) w.balanced (c.in_ok-whole.ensures.sub told t (record { root_is = w.root; stands = w.stands })).height_is (c.remove_at.ensures.refused told (search rules)))

pub returns-in_err-cut-clause-steps : goal.returns-in_err-cut-clause-steps
returns-in_err-cut-clause-steps g c told t w =
    let h = (c.in_ok-whole.ensures.sub told t (record { root_is = w.root; stands = w.stands })).height_is in
    steps_16 t _ _ w.balanced (omega (arith, h, c.sub_at.ensures.steps, c.remove_at.ensures.steps))

pub returns-in_err-give_block-clause-too_much : goal.returns-in_err-give_block-clause-too_much
returns-in_err-give_block-clause-too_much g c x told t w e there =
    few_given t c.in_ok-whole.whole.height _ _ w.balanced (c.in_ok-whole.ensures.sub told t (record { root_is = w.root; stands = w.stands })).height_is (rw c.sub_at.ensures.budget at c.remove_at.ensures.spent) (c.in_err-give_block.ensures.refused.0 (search rules))

pub returns-in_err-give_block-clause-few_left : goal.returns-in_err-give_block-clause-few_left
returns-in_err-give_block-clause-few_left g c x told t w e there =
    few_less t _ _ (g.P.Pages.budget c.remove_at.new.pages) _ c.give_block.ensures.spent (too_few_1 t (g.P.Pages.budget c.remove_at.new.pages) (c.in_err-give_block.ensures.refused.0 (search rules)))

pub returns-in_err-give_block-clause-steps : goal.returns-in_err-give_block-clause-steps
returns-in_err-give_block-clause-steps g c told t w =
    let h = (c.in_ok-whole.ensures.sub told t (record { root_is = w.root; stands = w.stands })).height_is in
    steps_16 t _ _ w.balanced (omega (arith, h, c.sub_at.ensures.steps, c.remove_at.ensures.steps))

pub returns-clause-steps : goal.returns-clause-steps
returns-clause-steps g c told t w =
    let h = (c.in_ok-whole.ensures.sub told t (record { root_is = w.root; stands = w.stands })).height_is in
    steps_16 t _ _ w.balanced (omega (arith, h, c.sub_at.ensures.steps, c.remove_at.ensures.steps))

pub returns-clause-staged : goal.returns-clause-staged
returns-clause-staged g c told t w =
    stages_least t c.in_ok-whole.whole.height _ _ _ w.balanced (c.in_ok-whole.ensures.sub told t (record { root_is = w.root; stands = w.stands })).height_is (rw c.sub_at.ensures.budget at c.remove_at.ensures.spent) c.give_block.ensures.spent

pub returns-clause-removed : goal.returns-clause-removed
returns-clause-removed g c told t w e there =
    removes _ c.args.self.now.kind c.args.self.now.root c.in_ok-whole.whole.height c.args.key.now e t w there _ c.in_ok-cut.cut (subst (λ (z : Blocks). Shrunk z c.args.self.now.kind t c.args.key.now e (g.P.Pages.blocks c.remove_at.new.pages) c.in_ok-cut.cut) (c.sub_at.ensures.kept told) (c.in_ok-cut.ensures.shrunk told e t (subst (λ (z : Blocks). CanShrink z c.args.self.now.kind c.args.self.now.root c.in_ok-whole.whole.height c.args.key.now e t) (sym (c.sub_at.ensures.kept told)) (can_shrink _ c.args.self.now.kind c.args.self.now.root c.in_ok-whole.whole.height c.args.key.now e t w there (c.in_ok-whole.ensures.sub told t (record { root_is = w.root; stands = w.stands })).height_is)))) _ (c.in_ok-give_block.ensures.given told)
