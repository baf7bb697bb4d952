use Rattle.std.proofs.Common.{◌≡◌, ℕ, ◌+◌, ◌<◌, ◌&&◌, Bool, List, false, get_or, set, length, map, not, sym, subst, ◌∙◌, ap, arith}
use Rattle.std.proofs.lemmas.List.{length-map}
use Rattle.vos_aggregate.specs.Buckets.{bucket_by}
use Rattle.vos_aggregate.specs.Chains.{LeadsTo}
use Rattle.vos_aggregate.specs.Sparing.{is_over}
use Rattle.vos_aggregate.proofs.Spared.{SparedUpto, none-marked, spared-begin, spared-end, spared-next, spared-on, spared-stop}
use Rattle.vos_aggregate.proofs.sparing.spare_in_chain.Goals as goal

pub loop-at-init : goal.loop-at-init
loop-at-init c =
    let vs = c.args.later.now.versions.now in
    let m : ℕ = length c.args.later.now.heads.now in
    let leads = c.args.later.now.later.chained.heads_lead c.args.bucket c.requires.within in
    record {
      from = leads.above;
      same = λ lt. leads.same (rw length-map lt);
      so_far = spared-begin m c.args.level c.args.path.now c.args.bucket c.requires.bucket c.args.marks.now vs c.args.later.now.later.plain
          c.args.later.now.from (get_or c.args.later.now.heads.now c.args.bucket 0) c.requires.planned.before leads;
    }

pub returns-then-is_last : goal.returns-then-is_last
returns-then-is_last c =
    let vs = c.args.later.now.versions.now in
    let so = c.loop-at.invariant.so_far in
    spared-stop (length c.args.later.now.heads.now) c.args.level c.args.path.now c.args.bucket c.requires.bucket c.args.marks.now vs c.args.later.now.later.plain c.loop-at.marks c.loop-at.at c.requires.planned.each so
    (none-marked c.args.plan.now.cont c.args.plan.now.upto c.args.later.now.from c.args.marks.now vs c.requires.planned c.args.later.now.later.rising c.args.level c.args.path.now c.loop-at.at c.index-later-at.result
    (get_or c.loop-at.marks c.loop-at.at false) c.loop-at.invariant.from c.loop-at-test.true (so.above c.loop-at.at (omega arith)) (sym c.is_last.ensures ∙ c.if-is_last.true))

pub loop-at-preserved : goal.loop-at-preserved
loop-at-preserved c =
    let vs = c.args.later.now.versions.now in
    let m : ℕ = length c.args.later.now.heads.now in
    let here : c.loop-at.at < length (map (bucket_by m) vs) = rw length-map c.loop-at-test.true in
    let leads : LeadsTo (map (bucket_by m) vs) (get_or (map (bucket_by m) vs) c.loop-at.at 0) (c.loop-at.at + 1) (get_or c.args.later.now.nexts.now c.loop-at.at 0) =
    c.args.later.now.later.chained.nexts_lead c.loop-at.at c.loop-at.invariant.from here in
    let next : LeadsTo (map (bucket_by m) vs) c.args.bucket (c.loop-at.at + 1) (get_or c.args.later.now.nexts.now c.loop-at.at 0) =
    subst (λ b. LeadsTo (map (bucket_by m) vs) b (c.loop-at.at + 1) (get_or c.args.later.now.nexts.now c.loop-at.at 0)) (c.loop-at.invariant.same c.loop-at-test.true) leads in
    let new : c.unmark.new.marks ≡ set c.loop-at.marks c.loop-at.at (get_or c.loop-at.marks c.loop-at.at false && not (is_over c.args.level c.args.path.now (get_or vs c.loop-at.at c.index-later-at.result).write)) =
    c.unmark.ensures ∙ ap (λ (b : Bool). set c.loop-at.marks c.loop-at.at (get_or c.loop-at.marks c.loop-at.at false && not b)) c.is_over.ensures in
    let more : SparedUpto c.args.level c.args.path.now c.args.marks.now c.unmark.new.marks vs (c.loop-at.at + 1) =
    subst (λ (ms : List Bool). SparedUpto c.args.level c.args.path.now c.args.marks.now ms vs (c.loop-at.at + 1)) (sym new)
    (spared-next m c.args.level c.args.path.now c.args.bucket c.requires.bucket c.args.marks.now vs c.args.later.now.later.plain c.loop-at.marks c.loop-at.at c.index-later-at.result c.loop-at-test.true c.requires.planned.each c.loop-at.invariant.so_far) in
    record {
      from = omega (arith, next.above, c.loop-at.invariant.from);
      same = λ lt. next.same (rw length-map lt);
      so_far = spared-on m c.args.level c.args.path.now c.args.bucket c.requires.bucket c.args.marks.now vs c.args.later.now.later.plain c.unmark.new.marks (c.loop-at.at + 1) (get_or c.args.later.now.nexts.now c.loop-at.at 0) next more;
    }

pub returns : goal.returns
returns c =
    spared-end (length c.args.later.now.heads.now) c.args.level c.args.path.now c.args.bucket c.requires.bucket c.args.marks.now c.args.later.now.versions.now c.args.later.now.later.plain c.loop-at.marks c.loop-at.at c.loop-at-test.false c.requires.planned.each c.loop-at.invariant.so_far
