use Rattle.std.proofs.Common.{◌≡◌, ◌<◌, ◌+◌, ◌-◌, ◌∙◌, ◌∷◌, [], ◌++◌, ℕ, List, length, drop, sym, ap, subst, arith, None}
use Rattle.std.specs.Prelude.{All}
use Rattle.std.proofs.lemmas.Bool.Decides.{nat_tests}
use Rattle.std.proofs.lemmas.Grind.{common_steps}
use Rattle.std.proofs.lemmas.List.{length-append}
use Rattle.std.proofs.lemmas.List.Elements.{All-push}
use Rattle.pmem_undo.specs.declared.span.Span.{Span}
use Rattle.pmem_undo.specs.Log.{ranges_in, behind}
use Rattle.pmem_undo.specs.Spans.{IsSpan, ranges_of, spans_length}
use Rattle.pmem_undo.proofs.Parsing.{length-push, ranges-push, behind_none, behind_all, end_read, end_left}
use Rattle.pmem_undo.proofs.restore.parse.Goals as goal

-- with no range told behind, there are none in all
stuck : (size count left at : ℕ) (bytes : List ℕ) (spans : List Span) → behind (ranges_of bytes spans) (ranges_in size left (drop at bytes)) ≡ ranges_in size count bytes → ranges_in size left (drop at bytes) ≡ None → ranges_in size count bytes ≡ None
stuck size count left at bytes spans so_far none = sym so_far ∙ (ap (behind (ranges_of bytes spans)) none ∙ behind_none (ranges_of bytes spans))

pub returns-in-None-clause-none : goal.returns-in-None-clause-none
returns-in-None-clause-none c off =
    let k = c.loop-range._range in
    let left : ℕ = c.args.count - (k + 1) in
    stuck c.args.size c.args.count (left + 1) c.loop-range.at c.args.bytes.now c.loop-range.spans.items (c.loop-range.invariant.told (left + 1) (omega arith)) (c.in-None.ensures.none left)

pub loop-range-preserved : goal.loop-range-preserved
loop-range-preserved c =
    let k = c.loop-range._range in
    let bytes = c.args.bytes.now in
    let spans = c.loop-range.spans.items in
    let span : Span = c.in-Some.span in
    let pushed : c.push.new.self.items ≡ spans ++ span ∷ [] = grind (arith, common_steps) in
    let end : ℕ = c.in-Some.span.start + c.in-Some.span.length in
    let longer : spans_length c.push.new.self.items ≡ spans_length spans + span.length = ap spans_length pushed ∙ length-push spans span in
    let counted : length c.push.new.self.items ≡ length spans + 1 = ap length pushed ∙ length-append spans (span ∷ []) in
    record {
      at_place = c.in-Some.ensures.sound.fits;
      sound = subst (λ (z : List Span). All (IsSpan c.args.size (length bytes)) z) (sym pushed) (All-push (IsSpan c.args.size (length bytes)) spans span c.loop-range.invariant.sound c.in-Some.ensures.sound);
      few = grind (arith, common_steps);
      whole = grind (arith, common_steps, counted);
      short = omega (arith, longer, counted, c.loop-range.invariant.short, c.in-Some.ensures.behind);
      room = grind (arith, common_steps);
      room_left = grind (arith, common_steps);
      told = λ left e.
          ap (λ (z : List Span). behind (ranges_of bytes z) (ranges_in c.args.size left (drop end bytes))) pushed
          ∙ (ranges-push bytes spans span (ranges_in c.args.size left (drop end bytes))
          ∙ (ap (behind (ranges_of bytes spans)) (sym (c.in-Some.ensures.told left)) ∙ c.loop-range.invariant.told (left + 1) (omega arith)));
    }

pub returns-clause-told : goal.returns-clause-told
returns-clause-told c here =
    let spans = c.loop-range.spans.items in
    let end : c.loop-range.at ≡ length c.args.bytes.now = grind (arith, nat_tests) in
    sym (c.loop-range.invariant.told 0 (omega arith)) ∙ (ap (behind (ranges_of c.args.bytes.now spans)) (end_read c.args.size c.args.bytes.now c.loop-range.at end) ∙ behind_all (ranges_of c.args.bytes.now spans))

pub returns-clause-none : goal.returns-clause-none
returns-clause-none c off =
    let below : c.loop-range.at < length c.args.bytes.now = grind (arith, nat_tests) in
    stuck c.args.size c.args.count 0 c.loop-range.at c.args.bytes.now c.loop-range.spans.items (c.loop-range.invariant.told 0 (omega arith)) (end_left c.args.size c.args.bytes.now c.loop-range.at below)
