use Rattle.std.proofs.Common.{ℕ, ◌+◌, ◌<◌, ◌≤◌, get_or, length, map, sym, subst, ◌∙◌, arith}
use Rattle.std.proofs.lemmas.List.{length-map}
use Rattle.daos_model.specs.Cells.{cell_at}
use Rattle.vos_aggregate.specs.Buckets.{bucket_by}
use Rattle.vos_aggregate.specs.Chains.{LeadsTo}
use Rattle.vos_aggregate.proofs.Walking.{said-here, said-next, said-none, said-passed}
use Rattle.vos_aggregate.proofs.later.Later.is_said_in.Goals as goal

pub loop-at-init : goal.loop-at-init
loop-at-init c =
    let vs = c.args.self.now.versions.now in
    let m : ℕ = length c.args.self.now.heads.now in
    let leads = c.args.self.now.later.chained.heads_lead c.args.bucket c.requires in
    record {
      from = leads.above;
      same = λ lt. leads.same (rw length-map lt);
      rest = said-passed m c.args.bucket c.args.sight (cell_at c.args.path.now c.args.index) vs c.args.self.now.from (get_or c.args.self.now.heads.now c.args.bucket 0) leads.above leads.none;
    }

pub returns-then-from-sight : goal.returns-then-from-sight
returns-then-from-sight c =
    let above : c.args.sight ≤ (get_or c.args.self.now.versions.now c.loop-at.at c.index-self-at.result).epoch.0 = omega arith in
    sym (said-none (length c.args.self.now.heads.now) c.args.bucket c.args.sight (cell_at c.args.path.now c.args.index) c.args.self.now.versions.now c.loop-at.at c.index-self-at.result c.args.self.now.later.rising c.loop-at-test.true above)
    ∙ c.loop-at.invariant.rest

pub returns-then-is_done_saying : goal.returns-then-is_done_saying
returns-then-is_done_saying c =
    let below : (get_or c.args.self.now.versions.now c.loop-at.at c.index-self-at.result).epoch.0 < c.args.sight = omega arith in
    sym (said-here (length c.args.self.now.heads.now) c.args.bucket c.args.sight (cell_at c.args.path.now c.args.index) c.args.self.now.versions.now c.loop-at.at c.index-self-at.result c.loop-at-test.true
    (c.loop-at.invariant.same c.loop-at-test.true) below (sym c.is_done_saying.ensures ∙ c.if-is_done_saying.true))
    ∙ c.loop-at.invariant.rest

pub loop-at-preserved : goal.loop-at-preserved
loop-at-preserved c =
    let vs = c.args.self.now.versions.now in
    let m : ℕ = length c.args.self.now.heads.now in
    let here : c.loop-at.at < length (map (bucket_by m) vs) = rw length-map c.loop-at-test.true in
    let leads : LeadsTo (map (bucket_by m) vs) (get_or (map (bucket_by m) vs) c.loop-at.at 0) (c.loop-at.at + 1) (get_or c.args.self.now.nexts.now c.loop-at.at 0) =
    c.args.self.now.later.chained.nexts_lead c.loop-at.at c.loop-at.invariant.from here in
    let next : LeadsTo (map (bucket_by m) vs) c.args.bucket (c.loop-at.at + 1) (get_or c.args.self.now.nexts.now c.loop-at.at 0) =
    subst (λ b. LeadsTo (map (bucket_by m) vs) b (c.loop-at.at + 1) (get_or c.args.self.now.nexts.now c.loop-at.at 0)) (c.loop-at.invariant.same c.loop-at-test.true) leads in
    record {
      from = omega (arith, next.above, c.loop-at.invariant.from);
      same = λ lt. next.same (rw length-map lt);
      rest = said-passed m c.args.bucket c.args.sight (cell_at c.args.path.now c.args.index) vs (c.loop-at.at + 1) (get_or c.args.self.now.nexts.now c.loop-at.at 0) next.above next.none
          ∙ sym (said-next m c.args.bucket c.args.sight (cell_at c.args.path.now c.args.index) vs c.loop-at.at c.index-self-at.result c.loop-at-test.true (sym c.is_done_saying.ensures ∙ c.if-is_done_saying.false))
          ∙ c.loop-at.invariant.rest;
    }
