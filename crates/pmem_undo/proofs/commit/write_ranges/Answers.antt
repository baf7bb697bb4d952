use Rattle.std.proofs.Common.{◌+◌, ◌∙◌, List, take, get_or, sym, ap, subst, arith}
use Rattle.base_outside.specs.Images.{Range, Call, all_over, over, Tears, Runs}
use Rattle.base_outside.specs.Images.Call.{Write}
use Rattle.base_outside.specs.ImageLaws.{all_over-push}
use Rattle.pmem_undo.specs.Settled.{writes}
use Rattle.pmem_undo.specs.Spans.{range_of, ranges_of}
use Rattle.pmem_undo.proofs.Moments.{leaves_more, tears_more, runs_more, writes-push}
use Rattle.pmem_undo.proofs.Phases.{ranges_more, spans_front}
use Rattle.pmem_undo.proofs.commit.write_ranges.Goals as goal

pub returns-in_err-write-clause-crash : goal.returns-in_err-write-clause-crash
returns-in_err-write-clause-crash g c t =
    let k = c.loop-span.span-index in
    let m = ranges_more c.args.buffer.now c.args.spans.now k (omega arith) in
    let one = tears_more (ranges_of c.args.buffer.now (take k c.args.spans.now)) _ _ _ _ (c.loop-span.invariant.crash t) (c.write.ensures.crash t) in
    spans_front c.args.buffer.now c.args.spans.now (k + 1) _ _ (subst (λ (rs : List Range). Tears rs (g.R.Region.may_leave c.args.region.now) (g.R.Region.may_leave c.write.new.self)) (sym m) one)

pub returns-in_err-write-clause-time : goal.returns-in_err-write-clause-time
returns-in_err-write-clause-time g c t =
    leaves_more _ _ _ _ _ _ _ _ (c.loop-span.invariant.time t) (c.write.ensures.time t) (returns-in_err-write-clause-crash g c t)

pub loop-span-preserved : goal.loop-span-preserved
loop-span-preserved g c =
    let k = c.loop-span.span-index in
    let buffer = c.args.buffer.now in
    let spans = c.args.spans.now in
    let r : Range = range_of buffer (get_or spans k (record { place = 0; start = 0; length = 0 })) in
    let m = ranges_more buffer spans k (omega arith) in
    record {
      extent = c.write.ensures.extent ∙ c.loop-span.invariant.extent;
      faults = omega arith;
      burns = omega arith;
      image = λ t. c.in_ok-write.ensures.image t ∙ (ap (over r) (c.loop-span.invariant.image t) ∙ (sym (all_over-push (ranges_of buffer (take k spans)) r (g.R.Region.image c.args.region.now)) ∙ ap (λ (rs : List Range). all_over rs (g.R.Region.image c.args.region.now)) (sym m)));
      crash = λ t. subst (λ (rs : List Range). Tears rs (g.R.Region.may_leave c.args.region.now) (g.R.Region.may_leave c.write.new.self)) (sym m) (tears_more (ranges_of buffer (take k spans)) r _ _ _ (c.loop-span.invariant.crash t) (c.write.ensures.crash t));
      time = λ t. leaves_more _ _ _ _ _ _ _ _ (c.loop-span.invariant.time t) (c.write.ensures.time t) (spans_front buffer spans (k + 1) _ _ (subst (λ (rs : List Range). Tears rs (g.R.Region.may_leave c.args.region.now) (g.R.Region.may_leave c.write.new.self)) (sym m) (tears_more (ranges_of buffer (take k spans)) r _ _ _ (c.loop-span.invariant.crash t) (c.write.ensures.crash t))));
      calls = subst (λ (cs : List Call). Runs g.R.Region.did cs c.args.region.now c.write.new.self) (sym (writes-push (ranges_of buffer (take k spans)) r) ∙ ap writes (sym m))
          (runs_more g.R.Region.did (writes (ranges_of buffer (take k spans))) (Write r) _ _ _ c.loop-span.invariant.calls c.in_ok-write.ensures.call);
    }
