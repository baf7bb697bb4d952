use Rattle.std.proofs.Common.{◌-◌, ◌∙◌, List, drop, get_or, sym, ap, subst, arith}
use Rattle.std.specs.Prelude.{IsTrue}
use Rattle.base_outside.specs.Images.{Range, Runs, over, Tears}
use Rattle.base_outside.specs.Images.Call.{Write}
use Rattle.pmem_undo.specs.Settled.{rolled, writes_back}
use Rattle.pmem_undo.specs.Spans.{range_of, ranges_of}
use Rattle.pmem_undo.proofs.Moments.{leaves_more, runs_more}
use Rattle.pmem_undo.proofs.Restoring.{ranges_before, tears_before, spans_behind}
use Rattle.pmem_undo.proofs.restore.write_back.Goals as goal

pub returns-in_err-write-clause-crash : goal.returns-in_err-write-clause-crash
returns-in_err-write-clause-crash g c t =
    let left = c.loop-left.left in
    let m = ranges_before c.args.buffer.now c.args.spans.now left (omega arith) c.loop-left.invariant.within in
    let all = tears_before _ (ranges_of c.args.buffer.now (drop left c.args.spans.now)) _ _ _ (c.loop-left.invariant.crash t) (c.write.ensures.crash t) in
    spans_behind c.args.buffer.now c.args.spans.now (left - 1) _ _ (subst (λ (rs : List Range). Tears rs (g.R.Region.may_leave c.args.region.now) (g.R.Region.may_leave c.write.new.self)) (sym m) all)

pub returns-in_err-write-clause-time : goal.returns-in_err-write-clause-time
returns-in_err-write-clause-time g c t =
    leaves_more _ _ _ _ _ _ _ _ (c.loop-left.invariant.time t) (c.write.ensures.time t) (returns-in_err-write-clause-crash g c t)

pub loop-left-preserved : goal.loop-left-preserved
loop-left-preserved g c =
    let left = c.loop-left.left in
    let buffer = c.args.buffer.now in
    let spans = c.args.spans.now in
    let f = g.R.Region.image c.args.region.now in
    let r : Range = range_of buffer (get_or spans (left - 1) (record { place = 0; start = 0; length = 0 })) in
    let m = ranges_before buffer spans left (omega arith) c.loop-left.invariant.within in
    let tears = λ (t : IsTrue g.R.Region.tells). subst (λ (rs : List Range). Tears rs (g.R.Region.may_leave c.args.region.now) (g.R.Region.may_leave c.write.new.self)) (sym m) (tears_before r (ranges_of buffer (drop left spans)) _ _ _ (c.loop-left.invariant.crash t) (c.write.ensures.crash t)) in
    record {
      within = omega arith;
      extent = c.write.ensures.extent ∙ c.loop-left.invariant.extent;
      faults = omega arith;
      burns = omega arith;
      image = λ t. c.in_ok-write.ensures.image t ∙ (ap (over r) (c.loop-left.invariant.image t) ∙ ap (λ (rs : List Range). rolled rs f) (sym m));
      crash = tears;
      time = λ t. leaves_more _ _ _ _ _ _ _ _ (c.loop-left.invariant.time t) (c.write.ensures.time t) (spans_behind buffer spans (left - 1) _ _ (tears t));
      calls = subst (λ (rs : List Range). Runs g.R.Region.did (writes_back rs) c.args.region.now c.write.new.self) (sym m)
          (runs_more g.R.Region.did (writes_back (ranges_of buffer (drop left spans))) (Write r) _ _ _ c.loop-left.invariant.calls c.in_ok-write.ensures.call);
    }
