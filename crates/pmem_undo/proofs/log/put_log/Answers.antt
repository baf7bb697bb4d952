use Rattle.std.proofs.Common.{◌≡◌, ◌+◌, ◌*◌, ◌++◌, ◌∙◌, List, ℕ, length, take, sym, ap, subst, arith}
use Rattle.std.proofs.Math.Seq.{take-length}
use Rattle.base_outside.specs.Images.{Runs, Call}
use Rattle.base_outside.specs.Images.Call.{Read}
use Rattle.pmem_undo.specs.declared.span.Span.{Span}
use Rattle.pmem_undo.specs.Log.{number_bytes, ranges_bytes}
use Rattle.pmem_undo.specs.Settled.{reads}
use Rattle.pmem_undo.specs.Spans.{old_spans, spans_length}
use Rattle.pmem_undo.proofs.Filling.{body_more, length_more, length_front, log_is}
use Rattle.pmem_undo.proofs.Moments.{looks_then, runs_more, reads-push}
use Rattle.pmem_undo.proofs.log.put_log.Goals as goal

pub put_range-requires-clause-room : goal.put_range-requires-clause-room
put_range-requires-clause-room g c =
    let k = c.loop-span.span-index in
    let more = length_more c.args.spans.now k (omega arith) in
    let front = length_front c.args.spans.now (k + 1) in
    omega (arith, c.loop-span.invariant.at_place, c.requires.room, c.requires.total)

pub loop-span-preserved : goal.loop-span-preserved
loop-span-preserved g c =
    let k = c.loop-span.span-index in
    let spans = c.args.spans.now in
    let f = g.R.Region.image c.args.region.now in
    let head = number_bytes (length spans) ++ number_bytes (8 * length spans + spans_length spans) in
    let more = length_more spans k (omega arith) in
    record {
      at_place = c.in_ok-at.ensures.end ∙ omega (arith, c.loop-span.invariant.at_place);
      extent = c.put_range.ensures.extent ∙ c.loop-span.invariant.extent;
      faults = omega arith;
      burns = omega arith;
      looks = λ t. looks_then _ _ _ _ _ _ _ _ _ _ _ _ (c.loop-span.invariant.looks t) (c.put_range.ensures.looks t);
      bytes = λ t.
          let here = c.in_ok-at.ensures.bytes t in
          let same = (c.loop-span.invariant.looks t).image in
          body_more f spans k head (take c.loop-span.at c.loop-span.body) _ (omega arith) (c.loop-span.invariant.bytes t) (rw same at here);
      calls = subst (λ (cs : List Call). Runs g.R.Region.did cs c.args.region.now c.put_range.new.region) (sym (reads-push k)) (runs_more g.R.Region.did (reads k) Read _ _ _ c.loop-span.invariant.calls c.in_ok-at.ensures.call);
    }

pub returns-clause-bytes : goal.returns-clause-bytes
returns-clause-bytes g c t =
    let spans = c.args.spans.now in
    let f = g.R.Region.image c.args.region.now in
    let head = number_bytes (length spans) ++ number_bytes (8 * length spans + spans_length spans) in
    let all : take c.loop-span.span-index spans ≡ spans = let e : c.loop-span.span-index ≡ length spans = omega arith in ap (λ (k : ℕ). take k spans) e ∙ take-length spans in
    log_is f spans (take c.loop-span.at c.loop-span.body) (c.loop-span.invariant.bytes t ∙ ap (λ (z : List Span). head ++ ranges_bytes (old_spans f z)) all)
