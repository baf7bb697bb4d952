use Rattle.std.proofs.Common.{Err, ◌≡◌, ◌∙◌, ◌+◌, ap, arith, refl, rules, subst, sym}
use Rattle.std.specs.Prelude.{take}
use Rattle.vos_levels.proofs.Calls.{goes_same, goes_then}
use Rattle.vos_path.specs.Small.{PathIsSmall}
use Rattle.vos_settle.specs.Costs.{Spends, for_one}
use Rattle.vos_settle.specs.Names.{IsNamed}
use Rattle.vos_settle.proofs.Sums.{spends_none, spends_then, spends_most}
use Rattle.vos_gather.proofs.Listing.{take_next}
use Rattle.vos_object.specs.Each.{each_cost}
use Rattle.vos_object.proofs.Turns.{SettledSoFar, cost_more, cost_part, paths_front, lacks_after, one_cost, settled_first, settled_next}
use Rattle.vos_object.proofs.object.Objects.settle_each.Goals as goal

pub loop-name-init : goal.loop-name-init
loop-name-init g c = record {
  objects = refl;
  so_far = λ told x held at. settled_first c.args.attempt c.args.step (g.P.Pages.blocks c.args.pages.now) x (g.P.Pages.budget c.args.pages.now) c.args.self.now.tree.root held at;
  committed = λ is. spends_none 0 (g.P.Pages.budget c.args.pages.now) (g.P.Pages.budget c.args.pages.now) refl;
  goes = goes_same g.P.Pages.stopped g.P.Pages.count g.P.Pages.burns c.args.pages.now;
  went_on = refl;
}

pub settle_write-requires : goal.settle_write-requires
settle_write-requires g c =
    let i = c.loop-name.invariant in
    record {
      step = c.requires.step;
      kind = ap (λ o. o.tree.kind) i.objects ∙ c.requires.kind;
      name = subst IsNamed (sym c.name-item.is) (c.requires.names c.loop-name.name-index c.name-item.result c.loop-name-test.true);
      here = λ told.
          let s = c.requires.here told in
          let f = i.so_far told s.0 s.1.0 s.1.1.0 in
          (f.turned.now, (f.turned.changed.holds, (f.turned.root_is, tt)));
    }

pub returns-in_err-settle_write-clause-too_much : goal.returns-in_err-settle_write-clause-too_much
returns-in_err-settle_write-clause-too_much g c few told x held at d small =
    let i = c.loop-name.invariant in
    let ns = c.args.names.now in
    let n = c.name-item.result in
    let f = i.so_far told x held at in
    let is : c.from_residual.result ≡ Err c.in_err-settle_write.field-0.0 = search rules in
    let left = c.settle_write.ensures.too_much (c.in_err-settle_write.was ∙ (sym is ∙ few)) told f.turned.now f.turned.changed.holds f.turned.root_is d (f.small d n.path (subst (λ z. PathIsSmall d z.path x) (sym c.name-item.is) (small c.loop-name.name-index c.name-item.result c.loop-name-test.true))) in
    let part = cost_part ns (c.loop-name.name-index + 1) (for_one d) 1 in
    let more = ap (λ z. each_cost z (for_one d) 1) (take_next ns c.loop-name.name-index n c.loop-name-test.true c.name-item.is) in
    lacks_after (each_cost (take c.loop-name.name-index ns) (for_one d) 1) (one_cost n (for_one d) 1) (each_cost ns (for_one d) 1) d (g.P.Pages.budget c.args.pages.now) (g.P.Pages.budget c.loop-name.pages)
    (omega (arith, part, more, cost_more (take c.loop-name.name-index ns) n (for_one d) 1)) (f.staged d (paths_front d x ns c.loop-name.name-index small)) left

pub returns-in_err-settle_write-clause-few_left : goal.returns-in_err-settle_write-clause-few_left
returns-in_err-settle_write-clause-few_left g c few told x held at d small =
    let i = c.loop-name.invariant in
    let f = i.so_far told x held at in
    let is : c.from_residual.result ≡ Err c.in_err-settle_write.field-0.0 = search rules in
    c.settle_write.ensures.few_left (c.in_err-settle_write.was ∙ (sym is ∙ few)) told f.turned.now f.turned.changed.holds f.turned.root_is d (f.small d c.name-item.result.path (subst (λ z. PathIsSmall d z.path x) (sym c.name-item.is) (small c.loop-name.name-index c.name-item.result c.loop-name-test.true)))

pub loop-name-preserved : goal.loop-name-preserved
loop-name-preserved g c =
    let i = c.loop-name.invariant in
    let p = c.in_ok-settle_write.ensures in
    let ns = c.args.names.now in
    let n = c.name-item.result in
    let k = c.loop-name.name-index in
    let next = sym (take_next ns k n c.loop-name-test.true c.name-item.is) in
    record {
      objects = c.settle_write.ensures.kept ∙ i.objects;
      so_far = λ told x held at.
          let f = i.so_far told x held at in
          subst (λ z. SettledSoFar c.args.attempt c.args.step z (g.P.Pages.blocks c.args.pages.now) x (g.P.Pages.budget c.args.pages.now) (g.P.Pages.blocks c.settle_write.new.pages) c.settle_write.new.self.tree.root (g.P.Pages.budget c.settle_write.new.pages)) next
          (settled_next c.args.attempt c.args.step (take k ns) n (subst IsNamed (sym c.name-item.is) (c.requires.names c.loop-name.name-index c.name-item.result c.loop-name-test.true)) (g.P.Pages.blocks c.args.pages.now) x (g.P.Pages.budget c.args.pages.now) (g.P.Pages.blocks c.loop-name.pages) c.loop-name.self.tree.root (g.P.Pages.budget c.loop-name.pages) (g.P.Pages.blocks c.settle_write.new.pages) c.settle_write.new.self.tree.root (g.P.Pages.budget c.settle_write.new.pages) f
          (p.settled told f.turned.now f.turned.changed.holds f.turned.root_is) (p.staged told f.turned.now f.turned.changed.holds f.turned.root_is) (p.gives told f.turned.now f.turned.changed.holds f.turned.root_is));
      committed = λ is. subst (λ z. Spends (each_cost z 1 0) (g.P.Pages.budget c.args.pages.now) (g.P.Pages.budget c.settle_write.new.pages)) next
          (subst (λ z. Spends z (g.P.Pages.budget c.args.pages.now) (g.P.Pages.budget c.settle_write.new.pages)) (cost_more (take k ns) n 1 0)
          (spends_then (each_cost (take k ns) 1 0) (one_cost n 1 0) (g.P.Pages.budget c.args.pages.now) (g.P.Pages.budget c.loop-name.pages) (g.P.Pages.budget c.settle_write.new.pages) (i.committed is) (p.committed is)));
      goes = goes_then g.P.Pages.stopped g.P.Pages.count g.P.Pages.burns c.args.pages.now c.loop-name.pages c.settle_write.new.pages i.goes c.settle_write.ensures.goes;
      went_on = p.went_on ∙ i.went_on;
    }

pub returns-clause-staged : goal.returns-clause-staged
returns-clause-staged g c told x held at d small =
    let ns = c.args.names.now in
    let f = c.loop-name.invariant.so_far told x held at in
    spends_most (each_cost (take c.loop-name.name-index ns) (for_one d) 1) (each_cost ns (for_one d) 1) (g.P.Pages.budget c.args.pages.now) (g.P.Pages.budget c.loop-name.pages) (cost_part ns c.loop-name.name-index (for_one d) 1)
    (f.staged d (paths_front d x ns c.loop-name.name-index small))
