use Rattle.std.proofs.Common.{◌∙◌, sym, subst, arith}
use Rattle.std.proofs.lemmas.Result.{on_ok_weaker}
use Rattle.pmem_pages.specs.Blocks.{Blocks}
use Rattle.pmem_tree_base.specs.Put.{CanPut, Put}
use Rattle.pmem_tree.proofs.Found.{steps_16}
use Rattle.pmem_tree.proofs.Valued.{can_put, puts}
use Rattle.pmem_tree.proofs.tree.Tree.put_value.Goals as goal

pub sub_at-requires : goal.sub_at-requires
sub_at-requires g c told =
    let v = c.requires.tree told in
    (v.0, record { root_is = v.1.0.root; stands = v.1.0.stands })

pub put_at-requires-clause-tree : goal.put_at-requires-clause-tree
put_at-requires-clause-tree g c told =
    let v = c.requires.tree told in
    let t = v.0 in
    let w = v.1.0 in
    let e = v.1.1.0 in
    let there = v.1.1.1 in
    (e, t, (subst (λ (z : Blocks). CanPut z c.args.self.now.kind c.args.self.now.root c.in_ok-whole.whole.height (record { key = c.args.key.now; value = c.args.value.now }) e t) (sym (c.sub_at.ensures.kept told)) (can_put _ c.args.self.now.kind c.args.self.now.root c.in_ok-whole.whole.height (record { key = c.args.key.now; value = c.args.value.now }) c.requires.value e t w there (c.in_ok-whole.ensures.sub told t (record { root_is = w.root; stands = w.stands })).height_is)))

pub returns-clause-steps : goal.returns-clause-steps
returns-clause-steps g c told t w =
    let h = (c.in_ok-whole.ensures.sub told t (record { root_is = w.root; stands = w.stands })).height_is in
    steps_16 t _ _ w.balanced (omega (arith, h, c.sub_at.ensures.steps, c.put_at.ensures.steps))

pub returns-clause-put : goal.returns-clause-put
returns-clause-put g c =
    on_ok_weaker c.put_at.result (λ h told t w e there. puts _ c.args.self.now.kind c.args.self.now.root c.in_ok-whole.whole.height (record { key = c.args.key.now; value = c.args.value.now }) c.requires.value e t w there _ (subst (λ (z : Blocks). Put z c.args.self.now.kind t (record { key = c.args.key.now; value = c.args.value.now }) (g.P.Pages.blocks c.put_at.new.pages)) (c.sub_at.ensures.kept told) (h told e t (subst (λ (z : Blocks). CanPut z c.args.self.now.kind c.args.self.now.root c.in_ok-whole.whole.height (record { key = c.args.key.now; value = c.args.value.now }) e t) (sym (c.sub_at.ensures.kept told)) (can_put _ c.args.self.now.kind c.args.self.now.root c.in_ok-whole.whole.height (record { key = c.args.key.now; value = c.args.value.now }) c.requires.value e t w there (c.in_ok-whole.ensures.sub told t (record { root_is = w.root; stands = w.stands })).height_is))))) c.put_at.ensures.put

pub returns-clause-idle : goal.returns-clause-idle
returns-clause-idle g c told t w e there value =
    let h = c.put_at.ensures.idle told e t (subst (λ (z : Blocks). CanPut z c.args.self.now.kind c.args.self.now.root c.in_ok-whole.whole.height (record { key = c.args.key.now; value = c.args.value.now }) e t) (sym (c.sub_at.ensures.kept told)) (can_put _ c.args.self.now.kind c.args.self.now.root c.in_ok-whole.whole.height (record { key = c.args.key.now; value = c.args.value.now }) c.requires.value e t w there (c.in_ok-whole.ensures.sub told t (record { root_is = w.root; stands = w.stands })).height_is)) value in
    (h.0 ∙ c.sub_at.ensures.kept told, h.1 ∙ c.sub_at.ensures.budget)
