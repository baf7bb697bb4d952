use Rattle.std.proofs.Common.{Some, rules, sym, subst, arith}
use Rattle.pmem_pages.specs.Blocks.{Blocks, Budget}
use Rattle.pmem_tree.specs.Set.{CanSet, Sets}
use Rattle.pmem_tree.proofs.Ends.{spent_nothing}
use Rattle.pmem_tree.proofs.Found.{steps_16}
use Rattle.pmem_tree.proofs.Inserted.{whole_stands, can_insert, set_with, sets_inserts, stages_few, stages_end, too_few, few_less}
use Rattle.pmem_tree.proofs.tree.Tree.insert.Goals as goal

pub sub_at-requires : goal.sub_at-requires
sub_at-requires g c told =
    let v = c.requires.tree told in
    (v.0, whole_stands _ c.args.self.now.kind c.args.self.now.root (record { key = c.args.key.now; value = c.args.value.now }) v.0 v.1.0 _ c.in_ok-at.at _ _ (record { bytes = (c.in_ok-at.ensures.taken told).0; was_free = c.in_ok-at.ensures.was_free told; taken = (c.in_ok-at.ensures.taken told).1; low = c.in_ok-at.ensures.first; high = search rules; spent = c.take_block.ensures.spent; free = c.in_ok-at.ensures.free }))

pub set_at-requires-clause-tree : goal.set_at-requires-clause-tree
set_at-requires-clause-tree g c told =
    let v = c.requires.tree told in
    (v.0, (subst (λ (z : Blocks). CanSet z c.args.self.now.kind c.args.self.now.root c.in_ok-whole.whole.height (Some c.in_ok-at.at) (record { key = c.args.key.now; value = c.args.value.now }) v.0) (sym (c.sub_at.ensures.kept told)) (can_insert _ c.args.self.now.kind c.args.self.now.root (record { key = c.args.key.now; value = c.args.value.now }) v.0 v.1.0 _ c.in_ok-at.at _ _ (record { bytes = (c.in_ok-at.ensures.taken told).0; was_free = c.in_ok-at.ensures.was_free told; taken = (c.in_ok-at.ensures.taken told).1; low = c.in_ok-at.ensures.first; high = search rules; spent = c.take_block.ensures.spent; free = c.in_ok-at.ensures.free }) c.in_ok-whole.whole.height c.requires.key c.requires.value (c.in_ok-whole.ensures.sub told v.0 (whole_stands _ c.args.self.now.kind c.args.self.now.root (record { key = c.args.key.now; value = c.args.value.now }) v.0 v.1.0 _ c.in_ok-at.at _ _ (record { bytes = (c.in_ok-at.ensures.taken told).0; was_free = c.in_ok-at.ensures.was_free told; taken = (c.in_ok-at.ensures.taken told).1; low = c.in_ok-at.ensures.first; high = search rules; spent = c.take_block.ensures.spent; free = c.in_ok-at.ensures.free }))).height_is v.1.1)))

pub returns-in_err-grown-clause-too_much : goal.returns-in_err-grown-clause-too_much
returns-in_err-grown-clause-too_much g c e told t w none =
    let h = (c.in_ok-whole.ensures.sub told t (whole_stands _ c.args.self.now.kind c.args.self.now.root (record { key = c.args.key.now; value = c.args.value.now }) t w _ c.in_ok-at.at _ _ (record { bytes = (c.in_ok-at.ensures.taken told).0; was_free = c.in_ok-at.ensures.was_free told; taken = (c.in_ok-at.ensures.taken told).1; low = c.in_ok-at.ensures.first; high = search rules; spent = c.take_block.ensures.spent; free = c.in_ok-at.ensures.free }))).height_is in
    too_few t _ _ w.balanced c.take_block.ensures.spent (rw (h, c.sub_at.ensures.budget) at (c.set_at.ensures.refused told (search rules)))

pub returns-in_err-grown-clause-few_left : goal.returns-in_err-grown-clause-few_left
returns-in_err-grown-clause-few_left g c e told t w none =
    let h = (c.in_ok-whole.ensures.sub told t (whole_stands _ c.args.self.now.kind c.args.self.now.root (record { key = c.args.key.now; value = c.args.value.now }) t w _ c.in_ok-at.at _ _ (record { bytes = (c.in_ok-at.ensures.taken told).0; was_free = c.in_ok-at.ensures.was_free told; taken = (c.in_ok-at.ensures.taken told).1; low = c.in_ok-at.ensures.first; high = search rules; spent = c.take_block.ensures.spent; free = c.in_ok-at.ensures.free }))).height_is in
    let b = g.P.Pages.budget c.sub_at.new.pages in
    few_less t _ _ b _ c.set_at.ensures.spent (too_few t b b w.balanced (spent_nothing 1 1 b) (rw h at (c.set_at.ensures.refused told (search rules))))

pub returns-in_err-grown-clause-steps : goal.returns-in_err-grown-clause-steps
returns-in_err-grown-clause-steps g c told t w =
    let h = (c.in_ok-whole.ensures.sub told t (whole_stands _ c.args.self.now.kind c.args.self.now.root (record { key = c.args.key.now; value = c.args.value.now }) t w _ c.in_ok-at.at _ _ (record { bytes = (c.in_ok-at.ensures.taken told).0; was_free = c.in_ok-at.ensures.was_free told; taken = (c.in_ok-at.ensures.taken told).1; low = c.in_ok-at.ensures.first; high = search rules; spent = c.take_block.ensures.spent; free = c.in_ok-at.ensures.free }))).height_is in
    steps_16 t _ _ w.balanced (omega (arith, h, c.sub_at.ensures.steps, c.set_at.ensures.steps))

pub returns-clause-steps : goal.returns-clause-steps
returns-clause-steps g c told t w =
    let h = (c.in_ok-whole.ensures.sub told t (whole_stands _ c.args.self.now.kind c.args.self.now.root (record { key = c.args.key.now; value = c.args.value.now }) t w _ c.in_ok-at.at _ _ (record { bytes = (c.in_ok-at.ensures.taken told).0; was_free = c.in_ok-at.ensures.was_free told; taken = (c.in_ok-at.ensures.taken told).1; low = c.in_ok-at.ensures.first; high = search rules; spent = c.take_block.ensures.spent; free = c.in_ok-at.ensures.free }))).height_is in
    steps_16 t _ _ w.balanced (omega (arith, h, c.sub_at.ensures.steps, c.set_at.ensures.steps))

pub returns-clause-staged : goal.returns-clause-staged
returns-clause-staged g c told t w none = stages_few _ c.args.self.now.kind c.args.self.now.root (record { key = c.args.key.now; value = c.args.value.now }) t w _ _ c.in_ok-grown.grown _ (set_with _ c.args.self.now.kind c.args.self.now.root (record { key = c.args.key.now; value = c.args.value.now }) t w _ c.in_ok-at.at _ _ (record { bytes = (c.in_ok-at.ensures.taken told).0; was_free = c.in_ok-at.ensures.was_free told; taken = (c.in_ok-at.ensures.taken told).1; low = c.in_ok-at.ensures.first; high = search rules; spent = c.take_block.ensures.spent; free = c.in_ok-at.ensures.free }) none _ c.in_ok-grown.grown _ (subst (λ (z : Budget). Sets (g.P.Pages.blocks c.take_block.new.self) c.args.self.now.kind (Some c.in_ok-at.at) (record { key = c.args.key.now; value = c.args.value.now }) t z (g.P.Pages.blocks c.set_at.new.pages) c.in_ok-grown.grown (g.P.Pages.budget c.set_at.new.pages)) c.sub_at.ensures.budget (subst (λ (z : Blocks). Sets z c.args.self.now.kind (Some c.in_ok-at.at) (record { key = c.args.key.now; value = c.args.value.now }) t (g.P.Pages.budget c.sub_at.new.pages) (g.P.Pages.blocks c.set_at.new.pages) c.in_ok-grown.grown (g.P.Pages.budget c.set_at.new.pages)) (c.sub_at.ensures.kept told) (c.in_ok-grown.ensures.set told t (subst (λ (z : Blocks). CanSet z c.args.self.now.kind c.args.self.now.root c.in_ok-whole.whole.height (Some c.in_ok-at.at) (record { key = c.args.key.now; value = c.args.value.now }) t) (sym (c.sub_at.ensures.kept told)) (can_insert _ c.args.self.now.kind c.args.self.now.root (record { key = c.args.key.now; value = c.args.value.now }) t w _ c.in_ok-at.at _ _ (record { bytes = (c.in_ok-at.ensures.taken told).0; was_free = c.in_ok-at.ensures.was_free told; taken = (c.in_ok-at.ensures.taken told).1; low = c.in_ok-at.ensures.first; high = search rules; spent = c.take_block.ensures.spent; free = c.in_ok-at.ensures.free }) c.in_ok-whole.whole.height c.requires.key c.requires.value (c.in_ok-whole.ensures.sub told t (whole_stands _ c.args.self.now.kind c.args.self.now.root (record { key = c.args.key.now; value = c.args.value.now }) t w _ c.in_ok-at.at _ _ (record { bytes = (c.in_ok-at.ensures.taken told).0; was_free = c.in_ok-at.ensures.was_free told; taken = (c.in_ok-at.ensures.taken told).1; low = c.in_ok-at.ensures.first; high = search rules; spent = c.take_block.ensures.spent; free = c.in_ok-at.ensures.free }))).height_is none))))))

pub returns-clause-inserted : goal.returns-clause-inserted
returns-clause-inserted g c told t w none = sets_inserts _ c.args.self.now.kind c.args.self.now.root (record { key = c.args.key.now; value = c.args.value.now }) t w _ _ c.in_ok-grown.grown _ (set_with _ c.args.self.now.kind c.args.self.now.root (record { key = c.args.key.now; value = c.args.value.now }) t w _ c.in_ok-at.at _ _ (record { bytes = (c.in_ok-at.ensures.taken told).0; was_free = c.in_ok-at.ensures.was_free told; taken = (c.in_ok-at.ensures.taken told).1; low = c.in_ok-at.ensures.first; high = search rules; spent = c.take_block.ensures.spent; free = c.in_ok-at.ensures.free }) none _ c.in_ok-grown.grown _ (subst (λ (z : Budget). Sets (g.P.Pages.blocks c.take_block.new.self) c.args.self.now.kind (Some c.in_ok-at.at) (record { key = c.args.key.now; value = c.args.value.now }) t z (g.P.Pages.blocks c.set_at.new.pages) c.in_ok-grown.grown (g.P.Pages.budget c.set_at.new.pages)) c.sub_at.ensures.budget (subst (λ (z : Blocks). Sets z c.args.self.now.kind (Some c.in_ok-at.at) (record { key = c.args.key.now; value = c.args.value.now }) t (g.P.Pages.budget c.sub_at.new.pages) (g.P.Pages.blocks c.set_at.new.pages) c.in_ok-grown.grown (g.P.Pages.budget c.set_at.new.pages)) (c.sub_at.ensures.kept told) (c.in_ok-grown.ensures.set told t (subst (λ (z : Blocks). CanSet z c.args.self.now.kind c.args.self.now.root c.in_ok-whole.whole.height (Some c.in_ok-at.at) (record { key = c.args.key.now; value = c.args.value.now }) t) (sym (c.sub_at.ensures.kept told)) (can_insert _ c.args.self.now.kind c.args.self.now.root (record { key = c.args.key.now; value = c.args.value.now }) t w _ c.in_ok-at.at _ _ (record { bytes = (c.in_ok-at.ensures.taken told).0; was_free = c.in_ok-at.ensures.was_free told; taken = (c.in_ok-at.ensures.taken told).1; low = c.in_ok-at.ensures.first; high = search rules; spent = c.take_block.ensures.spent; free = c.in_ok-at.ensures.free }) c.in_ok-whole.whole.height c.requires.key c.requires.value (c.in_ok-whole.ensures.sub told t (whole_stands _ c.args.self.now.kind c.args.self.now.root (record { key = c.args.key.now; value = c.args.value.now }) t w _ c.in_ok-at.at _ _ (record { bytes = (c.in_ok-at.ensures.taken told).0; was_free = c.in_ok-at.ensures.was_free told; taken = (c.in_ok-at.ensures.taken told).1; low = c.in_ok-at.ensures.first; high = search rules; spent = c.take_block.ensures.spent; free = c.in_ok-at.ensures.free }))).height_is none)))))) none

pub returns-clause-few : goal.returns-clause-few
returns-clause-few g c told t w none = stages_end _ c.args.self.now.kind c.args.self.now.root (record { key = c.args.key.now; value = c.args.value.now }) t w _ _ c.in_ok-grown.grown _ (set_with _ c.args.self.now.kind c.args.self.now.root (record { key = c.args.key.now; value = c.args.value.now }) t w _ c.in_ok-at.at _ _ (record { bytes = (c.in_ok-at.ensures.taken told).0; was_free = c.in_ok-at.ensures.was_free told; taken = (c.in_ok-at.ensures.taken told).1; low = c.in_ok-at.ensures.first; high = search rules; spent = c.take_block.ensures.spent; free = c.in_ok-at.ensures.free }) none _ c.in_ok-grown.grown _ (subst (λ (z : Budget). Sets (g.P.Pages.blocks c.take_block.new.self) c.args.self.now.kind (Some c.in_ok-at.at) (record { key = c.args.key.now; value = c.args.value.now }) t z (g.P.Pages.blocks c.set_at.new.pages) c.in_ok-grown.grown (g.P.Pages.budget c.set_at.new.pages)) c.sub_at.ensures.budget (subst (λ (z : Blocks). Sets z c.args.self.now.kind (Some c.in_ok-at.at) (record { key = c.args.key.now; value = c.args.value.now }) t (g.P.Pages.budget c.sub_at.new.pages) (g.P.Pages.blocks c.set_at.new.pages) c.in_ok-grown.grown (g.P.Pages.budget c.set_at.new.pages)) (c.sub_at.ensures.kept told) (c.in_ok-grown.ensures.set told t (subst (λ (z : Blocks). CanSet z c.args.self.now.kind c.args.self.now.root c.in_ok-whole.whole.height (Some c.in_ok-at.at) (record { key = c.args.key.now; value = c.args.value.now }) t) (sym (c.sub_at.ensures.kept told)) (can_insert _ c.args.self.now.kind c.args.self.now.root (record { key = c.args.key.now; value = c.args.value.now }) t w _ c.in_ok-at.at _ _ (record { bytes = (c.in_ok-at.ensures.taken told).0; was_free = c.in_ok-at.ensures.was_free told; taken = (c.in_ok-at.ensures.taken told).1; low = c.in_ok-at.ensures.first; high = search rules; spent = c.take_block.ensures.spent; free = c.in_ok-at.ensures.free }) c.in_ok-whole.whole.height c.requires.key c.requires.value (c.in_ok-whole.ensures.sub told t (whole_stands _ c.args.self.now.kind c.args.self.now.root (record { key = c.args.key.now; value = c.args.value.now }) t w _ c.in_ok-at.at _ _ (record { bytes = (c.in_ok-at.ensures.taken told).0; was_free = c.in_ok-at.ensures.was_free told; taken = (c.in_ok-at.ensures.taken told).1; low = c.in_ok-at.ensures.first; high = search rules; spent = c.take_block.ensures.spent; free = c.in_ok-at.ensures.free }))).height_is none))))))
